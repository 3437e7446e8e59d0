-- What is kept of a map, as a record comes or changes.
use Rattle.std.proofs.Common.{◌≡◌, ◌≢◌, ℕ, zero, suc, ◌+◌, ◌*◌, ◌<◌, ◌≤◌, Bool, true, false, cond, Option, Some, None}
use Rattle.std.proofs.Common.{IsSome, is_some, List, [], ◌∷◌, map, length, refl}
use Rattle.std.proofs.Common.{sym, ap, subst, ◌∙◌, arith, true≢false, nat_cmp, set, length-set, replicate, inl, inr}
use Rattle.std.proofs.lemmas.Bool.Decides.{eqb_tells}
use Rattle.std.proofs.lemmas.Bool.{cond-true, cond-false, eq-eqb}
use Rattle.std.specs.Cmp.{nat_cmp_total}
use Rattle.std.specs.List.{sum_by}
use Rattle.std.specs.Option.{option_map}
use Rattle.std.specs.FinMap as map
use Rattle.std.proofs.lemmas.List.{nil_from_length}
use Rattle.cube_defs.specs.Cell.{Cell}
use Rattle.cube_defs.specs.Tree.{Tree, cell_at}
use Rattle.tree_laws.specs.Counts.{classes_in}
use Rattle.cell_core.specs.declared.cell.NodeNo.{NodeNo}
use Rattle.qc_arena.specs.declared.tree_totals.TreeTotals.{TreeTotals}
use Rattle.qc_arena.specs.RecordReaders.{record_at, record_or}
use Rattle.qc_arena.specs.Map.{Known, IsPlace, edges_in, new_record}
use Rattle.qc_arena.specs.Counted.{root_after, root_without}
use Rattle.qc_arena.specs.Inside.{AreTotals, IsCounted, IsRoot}
use Rattle.qc_arena.proofs.Imaged.{eq_apart}
use Rattle.qc_arena.proofs.Totals.{total-few, total-insert, total-within, worth}
use Rattle.cube_laws.proofs.CallerLemmas.{eq_cmp}
use Rattle.tree_laws.proofs.CallerLemmas.{some_same}

pub at_added : (t : Tree ℕ) (k : ℕ) (n : Known) → map.get (map.insert t k n) k ≡ Some n
at_added t k n = map.get-insert nat_cmp_total t k n k ∙ cond-true _ _ _ (eq_cmp k k ∙ eq-eqb k k refl)

pub off_added : (t : Tree ℕ) (k : ℕ) (n : Known) (q : ℕ) → q ≢ k → map.get (map.insert t k n) q ≡ map.get t q
off_added t k n q h = map.get-insert nat_cmp_total t k n q ∙ cond-false _ _ _ (eq_cmp q k ∙ eq_apart q k h)

pub at_removed : (t : Tree ℕ) (k : ℕ) → map.get (map.remove t k) k ≡ None
at_removed t k = map.get-remove nat_cmp_total t k k ∙ cond-true _ _ _ (eq_cmp k k ∙ eq-eqb k k refl)

pub off_removed : (t : Tree ℕ) (k q : ℕ) → q ≢ k → map.get (map.remove t k) q ≡ map.get t q
off_removed t k q h = map.get-remove nat_cmp_total t k q ∙ cond-false _ _ _ (eq_cmp q k ∙ eq_apart q k h)

-- a map with a record taken out and put in again
back_in : (t : Tree ℕ) (k : ℕ) (n : Known) → map.get t k ≡ Some n → map.insert (map.remove t k) k n ≡ t
back_in t k n h = map.same_map nat_cmp_total map.nat_cmp-IsAntisymmetric (map.insert (map.remove t k) k n) t
    (λ q. elim (eqb_tells q k) [
      | inl s ↦ ap (map.get (map.insert (map.remove t k) k n)) s.1 ∙ at_added (map.remove t k) k n
          ∙ sym (ap (map.get t) s.1 ∙ h)
      | inr s ↦ off_added (map.remove t k) k n q s.1 ∙ off_removed t k q s.1
    ])

total-remove : (f : Known → ℕ) (t : Tree ℕ) (k : ℕ) (n : Known) → map.get t k ≡ Some n
    → sum_by f (map.values (map.remove t k)) + f n ≡ sum_by f (map.values t)
total-remove f t k n h =
    let put = total-insert f (map.remove t k) k n in
    let none = ap (worth f) (at_removed t k) in
    let same = ap (λ (x : Tree ℕ). sum_by f (map.values x)) (back_in t k n h) in
    omega arith

len_less : (t : Tree ℕ) (k : ℕ) (n : Known) → map.get t k ≡ Some n → map.len (map.remove t k) + 1 ≡ map.len t
len_less t k n h =
    let put = map.len-insert nat_cmp_total (map.remove t k) k n
    ∙ cond-false _ _ _ (ap (λ (o : Option Known). is_some o) (at_removed t k)) in
    let same = ap (λ (x : Tree ℕ). map.len x) (back_in t k n h) in
    omega arith

-- a record that keeps its cell changes no cell
pub same_cells : (t : Tree ℕ) (k : ℕ) (n n' : Known) → map.get t k ≡ Some n → n'.cell ≡ n.cell → (q : ℕ)
    → cell_at (map.insert t k n') q ≡ cell_at t q
same_cells t k n n' h c q = elim (eqb_tells q k) [
  | inl s ↦ ap (λ x. cell_at (map.insert t k n') x) s.1 ∙ ap (option_map (λ (x : Known). x.cell)) (at_added t k n')
      ∙ ap (λ (x : Cell ℕ). Some x) c
      ∙ sym (ap (λ x. cell_at t x) s.1 ∙ ap (option_map (λ (x : Known). x.cell)) h)
  | inr s ↦ ap (option_map (λ (x : Known). x.cell)) (off_added t k n' q s.1)
]

root_same : (w : ℕ) (r : Option NodeNo) (t t' : Tree ℕ) → ((q : ℕ) → cell_at t' q ≡ cell_at t q) → IsRoot w r t
    → IsRoot w r t'
root_same w None t t' h r = λ q e. r q (sym (h q) ∙ e)
root_same w (Some k) t t' h r = (h k.0 ∙ r.0, λ q e. r.1 q (sym (h q) ∙ e))

-- whether a node has a class, as a number
abbrev pub has_class : Known → ℕ
has_class n = cond (is_some n.class) 1 0

classes_put : (t : Tree ℕ) (k : ℕ) (n : Known)
    → classes_in nat_cmp (map.insert t k n) + worth has_class (map.get t k) ≡ classes_in nat_cmp t + has_class n
classes_put t k n = total-insert has_class t k n

-- how many edges a node has
abbrev pub width_of : Known → ℕ
width_of n = length n.edges

edges_put : (t : Tree ℕ) (k : ℕ) (n : Known)
    → edges_in (map.insert t k n) + worth width_of (map.get t k) ≡ edges_in t + width_of n
edges_put t k n = total-insert width_of t k n

-- a record is put into a map
counted_put : (t : Tree ℕ) (k : ℕ) (n : Known) → ((q : ℕ) (x : Known) → map.get t q ≡ Some x → IsCounted q x)
    → k < 4294967296 → width_of n < 4294967296
    → (q : ℕ) (x : Known) → map.get (map.insert t k n) q ≡ Some x → IsCounted q x
counted_put t k n all number edges q x e = elim (eqb_tells q k) [
  | inl s ↦ let is : n ≡ x = some_same (sym (at_added t k n) ∙ sym (ap (map.get (map.insert t k n)) s.1) ∙ e) in
      record {
        number = subst (λ y. y < 4294967296) (sym s.1) number;
        edges = subst (λ (y : Known). length y.edges < 4294967296) is edges;
      }
  | inr s ↦ all q x (sym (off_added t k n q s.1) ∙ e)
]

pub kept_change : (w m : ℕ) (t : Tree ℕ) (kept kept' : TreeTotals) (k : ℕ) (n n' : Known) → AreTotals w m t kept
    → map.get t k ≡ Some n → n'.cell ≡ n.cell
    → kept'.root ≡ kept.root → kept'.nodes ≡ kept.nodes → kept'.classes + has_class n ≡ kept.classes + has_class n'
    → kept'.edges + width_of n ≡ kept.edges + width_of n' → width_of n' < 4294967296
    → AreTotals w m (map.insert t k n') kept'
kept_change w m t kept kept' k n n' is h c r a b d fits =
    let cells = same_cells t k n n' h c in
    let long = map.len-insert nat_cmp_total t k n' ∙ cond-true _ _ _ (ap (λ (o : Option Known). is_some o) h) in
    let put = classes_put t k n' in
    let had = ap (worth has_class) h in
    let counted = is.classes in
    let wide = edges_put t k n' in
    let was = ap (worth width_of) h in
    let all = is.edges in
    record {
      root = subst (λ x. IsRoot w x (map.insert t k n')) (sym r)
          (root_same w kept.root t (map.insert t k n') cells is.root);
      nodes = a ∙ is.nodes ∙ sym long;
      classes = omega arith;
      edges = omega arith;
      few = let few = is.few in omega arith;
      cells = λ q x e. is.cells q x (sym (cells q) ∙ e);
      counted = counted_put t k n' is.counted (is.counted k n h).number fits;
    }

not_all_any : (c : Cell ℕ) (i v w : ℕ) → i < length c → set c i (Some v) ≡ replicate w None → ⊥
not_all_any [] i v w l e = absurd (omega arith)
not_all_any (x ∷ c) zero v zero l e = cc
not_all_any (x ∷ c) zero v (suc w) l e = cc
not_all_any (x ∷ c) (suc i) v zero l e = cc
not_all_any (x ∷ c) (suc i) v (suc w) l e = let rest : set c i (Some v) ≡ replicate w None = cc in
    not_all_any c i v w (omega arith) rest

length-replicate : (w : ℕ) → length (replicate {A = Option ℕ} w None) ≡ w
length-replicate zero = refl
length-replicate (suc w) = ap suc (length-replicate w)

pub cell_there : (t : Tree ℕ) (k : ℕ) → IsSome (map.get t k) → cell_at t k ≡ Some (record_at t k).cell
cell_there t k h = go (map.get t k) h
  where
    go : (o : Option Known) → IsSome o → option_map (λ (n : Known). n.cell) o ≡ Some (record_or o).cell
    go None h = absurd (true≢false (sym h))
    go (Some n) h = refl

module _ (w m : ℕ) (t : Tree ℕ) (kept : TreeTotals) (is : AreTotals w m t kept) where
  -- a new node's cell is as long as all
  length-new : (u : Option (NodeNo × ℕ × ℕ)) → IsPlace w t u → length (new_record w t u).cell ≡ w
  length-new None p = length-replicate w
  length-new (Some u) p = length-set (record_at t u.0.0).cell u.1 (Some u.2) ∙ is.cells u.0.0 _ (cell_there t u.0.0 p.0)

  not_root : (u : NodeNo × ℕ × ℕ) → IsPlace w t (Some u) → (new_record w t (Some u)).cell ≡ replicate w None → ⊥
  not_root u p e = not_all_any (record_at t u.0.0).cell u.1 u.2 w (let long
      = is.cells u.0.0 _ (cell_there t u.0.0 p.0) in let low = p.2 in omega arith) e

  off_root : (u : NodeNo × ℕ × ℕ) (k : ℕ) (n : Known) → n.cell ≢ replicate w None → map.get t k ≡ None
      → (r : Option NodeNo) → IsRoot w r t → IsRoot w r (map.insert t k n)
  off_root u k n deep none None h = λ q e. elim (eqb_tells q k) [
    | inl s ↦ let at : Some n.cell ≡ Some (replicate {A = Option ℕ} w None)
        = ap (option_map (λ (y : Known). y.cell)) (sym (ap (map.get (map.insert t k n)) s.1 ∙ at_added t k n)) ∙ e in
        let same : n.cell ≡ replicate w None = cc in deep same
    | inr s ↦ h q (sym (ap (option_map (λ (y : Known). y.cell)) (off_added t k n q s.1)) ∙ e)
  ]
  off_root u k n deep none (Some r) h = (
    ap (option_map (λ (y : Known). y.cell)) (off_added t k n r.0 (λ s. let gone : cell_at t r.0 ≡ None
        = ap (λ x. cell_at t x) s ∙ ap (option_map (λ (y : Known). y.cell)) none in
        let both : None ≡ Some (replicate {A = Option ℕ} w None) = sym gone ∙ h.0 in cc)) ∙ h.0,
    λ q e. elim (eqb_tells q k) [
      | inl s ↦ let at : Some n.cell ≡ Some (replicate {A = Option ℕ} w None)
          = ap (option_map (λ (y : Known). y.cell)) (sym (ap (map.get (map.insert t k n)) s.1 ∙ at_added t k n)) ∙ e in
          let same : n.cell ≡ replicate w None = cc in absurd (deep same)
      | inr s ↦ h.1 q (sym (ap (option_map (λ (y : Known). y.cell)) (off_added t k n q s.1)) ∙ e)
    ],
  )

  root_added : (u : Option (NodeNo × ℕ × ℕ)) (k : ℕ) → map.get t k ≡ None → IsPlace w t u
      → IsRoot w (root_after kept.root u k) (map.insert t k (new_record w t u))
  root_added None k none p =
      let n = new_record w t None in (
        ap (option_map (λ (n : Known). n.cell)) (at_added t k n),
        λ q e. elim (eqb_tells q k) [
          | inl s ↦ s.1
          | inr s ↦ absurd (p q (sym (ap (option_map (λ (y : Known). y.cell)) (off_added t k n q s.1)) ∙ e))
        ],
      )
  root_added (Some u) k none p = off_root u k (new_record w t (Some u)) (not_root u p) none kept.root is.root

  class_free : (u : Option (NodeNo × ℕ × ℕ)) → has_class (new_record w t u) ≡ 0
  class_free None = refl
  class_free (Some u) = refl

  edges_free : (u : Option (NodeNo × ℕ × ℕ)) → width_of (new_record w t u) ≡ 0
  edges_free None = refl
  edges_free (Some u) = refl

  pub kept_add : (kept' : TreeTotals) (u : Option (NodeNo × ℕ × ℕ)) (k : ℕ) → map.get t k ≡ None → IsPlace w t u
      → kept.nodes < m → k < 4294967296
      → kept'.root ≡ root_after kept.root u k → kept'.nodes ≡ kept.nodes + 1 → kept'.classes ≡ kept.classes
      → kept'.edges ≡ kept.edges → AreTotals w m (map.insert t k (new_record w t u)) kept'
  kept_add kept' u k none p room small r a b d =
      let n = new_record w t u in
      let long = map.len-insert nat_cmp_total t k n ∙ cond-false _ _ _ (ap (λ (o : Option Known). is_some o) none) in
      let put = classes_put t k n in
      let had = ap (worth has_class) none in
      let free = class_free u in
      let counted = is.classes in
      let had_nodes = is.nodes in
      let wide = edges_put t k n in
      let was = ap (worth width_of) none in
      let no_edges = edges_free u in
      let all = is.edges in
      record {
        root = subst (λ x. IsRoot w x (map.insert t k n)) (sym r) (root_added u k none p);
        nodes = omega arith;
        classes = omega arith;
        edges = omega arith;
        few = omega arith;
        cells = λ q x e. elim (eqb_tells q k) [
          | inl s ↦ let at : Some n.cell ≡ Some x
              = ap (option_map (λ (y : Known). y.cell)) (sym (ap (map.get (map.insert t k n)) s.1 ∙ at_added t k n))
              ∙ e in let same : n.cell ≡ x = cc in ap length (sym same) ∙ length-new u p
          | inr s ↦ is.cells q x (sym (ap (option_map (λ (y : Known). y.cell)) (off_added t k n q s.1)) ∙ e)
        ];
        counted = counted_put t k n is.counted small (omega (arith, no_edges));
      }

  off_gone : (k q : ℕ) → q ≢ k → cell_at (map.remove t k) q ≡ cell_at t q
  off_gone k q h = ap (option_map (λ (y : Known). y.cell)) (off_removed t k q h)

  no_cell : (k : ℕ) (c : Cell ℕ) → cell_at (map.remove t k) k ≡ Some c → ⊥
  no_cell k c e = let gone : None ≡ Some c = sym (ap (option_map (λ (y : Known). y.cell)) (at_removed t k)) ∙ e in
      true≢false (sym (ap is_some gone))

  root_gone : (k : ℕ) (r : Option NodeNo) → IsRoot w r t → IsRoot w (root_without r k) (map.remove t k)
  root_gone k None h = λ q e. elim (eqb_tells q k) [
    | inl s ↦ no_cell k (replicate w None) (ap (λ x. cell_at (map.remove t k) x) (sym s.1) ∙ e)
    | inr s ↦ h q (sym (off_gone k q s.1) ∙ e)
  ]
  root_gone k (Some r) h = elim (eqb_tells r.0 k) [
    | inl s ↦ subst (λ (x : Option NodeNo). IsRoot w x (map.remove t k)) (sym (cond-true _ _ _ s.0))
        (λ q e. elim (eqb_tells q k) [
          | inl d ↦ no_cell k (replicate w None) (ap (λ x. cell_at (map.remove t k) x) (sym d.1) ∙ e)
          | inr d ↦ d.1 (h.1 q (sym (off_gone k q d.1) ∙ e) ∙ s.1)
        ])
    | inr s ↦ subst (λ (x : Option NodeNo). IsRoot w x (map.remove t k)) (sym (cond-false _ _ _ s.0)) (
      off_gone k r.0 s.1 ∙ h.0,
      λ q e. elim (eqb_tells q k) [
        | inl d ↦ absurd (no_cell k (replicate w None) (ap (λ x. cell_at (map.remove t k) x) (sym d.1) ∙ e))
        | inr d ↦ h.1 q (sym (off_gone k q d.1) ∙ e)
      ],
    )
  ]

  -- a record goes
  pub kept_gone : (kept' : TreeTotals) (k : ℕ) (n : Known) → map.get t k ≡ Some n
      → kept'.root ≡ root_without kept.root k → kept'.nodes + 1 ≡ kept.nodes
      → kept'.classes + has_class n ≡ kept.classes → kept'.edges + width_of n ≡ kept.edges
      → AreTotals w m (map.remove t k) kept'
  kept_gone kept' k n h r a b d =
      let gone = total-remove has_class t k n h in
      let wide = total-remove width_of t k n h in
      let counted = is.classes in
      let had_nodes = is.nodes in
      let all = is.edges in
      let short : map.len (map.remove t k) + 1 ≡ map.len t = len_less t k n h in
      record {
        root = subst (λ x. IsRoot w x (map.remove t k)) (sym r) (root_gone k kept.root is.root);
        nodes = omega arith;
        classes = omega arith;
        edges = omega arith;
        few = let few = is.few in omega arith;
        cells = λ q x e. elim (eqb_tells q k) [
          | inl s ↦ absurd (no_cell k x (ap (λ y. cell_at (map.remove t k) y) (sym s.1) ∙ e))
          | inr s ↦ is.cells q x (sym (off_gone k q s.1) ∙ e)
        ];
        counted = λ q x e. elim (eqb_tells q k) [
          | inl s ↦ (let gone : None ≡ Some x = sym (ap (map.get (map.remove t k)) s.1 ∙ at_removed t k) ∙ e in cc)
          | inr s ↦ is.counted q x (sym (off_removed t k q s.1) ∙ e)
        ];
      }

pub no_entries : map.entries (map.empty {X = Known} {R = nat_cmp}) ≡ []
no_entries = nil_from_length _ (sym (map.len-entries (map.empty {X = Known} {R = nat_cmp}))
    ∙ map.len-empty nat_cmp Known)

pub none_there : {X : Type 0} (q : ℕ) (c : Cell ℕ) → cell_at map.empty q ≡ Some c → X
none_there q c e = let gone : None ≡ Some c = sym (ap (option_map (λ (n : Known). n.cell)) (map.get-empty nat_cmp q))
    ∙ e in absurd (true≢false (sym (ap is_some gone)))

-- nothing is kept of no nodes
pub kept_none : (w m : ℕ) (kept : TreeTotals) → kept.root ≡ None → kept.nodes ≡ 0 → kept.classes ≡ 0 → kept.edges ≡ 0
    → AreTotals w m map.empty kept
kept_none w m kept r a b d = record {
  root = subst (λ x. IsRoot w x map.empty) (sym r) (λ q e. none_there q (replicate w None) e);
  nodes = a ∙ sym (map.len-empty nat_cmp Known);
  classes = b ∙ sym (ap (λ (es : List (ℕ × Known)). sum_by has_class (map (λ e. e.1) es)) no_entries);
  edges = d ∙ sym (ap (λ (es : List (ℕ × Known)). sum_by width_of (map (λ e. e.1) es)) no_entries);
  few = let none = map.len-empty nat_cmp Known in omega arith;
  cells = λ q c e. none_there q c e;
  counted = λ q x e. let gone : None ≡ Some x = sym (map.get-empty nat_cmp q) ∙ e in cc;
}

-- there are no more classes than nodes
pub classes_few : (w m : ℕ) (t : Tree ℕ) (kept : TreeTotals) → AreTotals w m t kept → kept.classes ≤ m
classes_few w m t kept is =
    let few : classes_in nat_cmp t ≤ map.len t = total-few has_class (λ n. at_most (is_some n.class)) t in
    let counted = is.classes in
    let all = is.few in
    omega arith
  where
    at_most : (b : Bool) → cond b 1 0 ≤ 1
    at_most true = omega arith
    at_most false = omega arith

-- a node's class is counted
pub class_counted : (w m : ℕ) (t : Tree ℕ) (kept : TreeTotals) (k : ℕ) (n : Known) → AreTotals w m t kept
    → map.get t k ≡ Some n → has_class n ≤ kept.classes
class_counted w m t kept k n is h =
    let put = classes_put t k (record n { class = None }) in
    let had = ap (worth has_class) h in
    let counted = is.classes in
    omega arith

pub some_map : {X Y : Type 0} (f : X → Y) (o : Option X) → is_some o ≡ is_some (option_map f o)
some_map f None = refl
some_map f (Some x) = refl

-- a node's edges are counted
pub edges_counted : (w m : ℕ) (t : Tree ℕ) (kept : TreeTotals) (k : ℕ) (n : Known) → AreTotals w m t kept
    → map.get t k ≡ Some n → width_of n ≤ kept.edges
edges_counted w m t kept k n is h =
    let put = edges_put t k (record n { edges = [] }) in
    let had = ap (worth width_of) h in
    let all = is.edges in
    omega arith

-- there are far fewer edges than 64 bits count
pub edges_few : (w m : ℕ) (t : Tree ℕ) (kept : TreeTotals) → AreTotals w m t kept → m ≤ 4000000
    → kept.edges ≤ 17179869184000000
edges_few w m t kept is h =
    let most : edges_in t ≤ map.len t * 4294967296 = total-within width_of t (λ k n e. (is.counted k n e).edges) in
    let all = is.edges in
    let few = is.few in
    omega (arith, most, all, few, h)

-- where a node is there, some are
pub nodes_counted : (w m : ℕ) (t : Tree ℕ) (kept : TreeTotals) (k : ℕ) (n : Known) → AreTotals w m t kept
    → map.get t k ≡ Some n → 0 < kept.nodes
nodes_counted w m t kept k n is h =
    let less = len_less t k n h in
    let all = is.nodes in
    omega arith

-- what is found is a record, where something is
pub is_record : (o : Option Known) → IsSome o → o ≡ Some (record_or o)
is_record None h = absurd (true≢false (sym h))
is_record (Some n) h = refl
