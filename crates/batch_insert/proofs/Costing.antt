-- An insertion costs no more than the nodes that generalize the tuple, and their edges, allow.
use Rattle.std.proofs.Common.{◌≡◌, inl, inr, ℕ, suc, ◌+◌, ◌*◌, ◌^◌, ◌<◌, ◌≤◌, Bool, true, false, cond, Option, Some, None, List, [], ◌∷◌}
use Rattle.std.proofs.Common.{◌++◌, filter, map, sum, length, nat_cmp, refl, sym, ap, ap₂, ◌∙◌, arith, true≢false}
use Rattle.std.proofs.lemmas.Bool.{cond-true, cond-false}
use Rattle.std.proofs.lemmas.List.Sums.{sum_by-cons}
use Rattle.std.specs.List.{cons_option, filter_map, sum_by}
use Rattle.std.proofs.Math.Nat.{mul-add}
use Rattle.std.specs.Cmp.{nat_cmp_total}
use Rattle.std.specs.Ordering.{eq_by_cmp}
use Rattle.std.specs.Option.{option_map}
use Rattle.std.specs.FinMap as finmap
use Rattle.std.proofs.lemmas.List.{length-map}
use Rattle.cube_defs.specs.Cell.{Cell, cell_eq, cell_of, depth, cell_prefix, leq, with_value}
use Rattle.cube_defs.specs.Rows as defs
use Rattle.cube_defs.specs.Tree.{Edge, Node, node_of, nodes, generalizing_size}
use Rattle.cube_laws.specs.Lists.{Among}
use Rattle.cube_laws.proofs.CallerLemmas.{cell_eq-exact, cell_eq-same, among_filter, among_map, map_among, node_closed, nodes-is}
use Rattle.cube_laws.proofs.CallerLemmas.{code_equality, square}
use Rattle.tree_laws.specs.Labels.{record_of}
use Rattle.tree_laws.proofs.CallerLemmas.{edges-are, depth-with_value, cell_prefix-beyond, cell_prefix-cell_prefix, cell_prefix-with_value}
use Rattle.tree_laws.proofs.CallerLemmas.{cell_record, some_same, EachOnce, sum_ones, sum_within, Ascends, before_apart}
use Rattle.qc_arena.specs.Map.{Arena, Known}
use Rattle.qc_arena.specs.RecordReaders.{record_at}
use Rattle.batch_insert.specs.declared.plan.LabelCopy.{LabelCopy}
use Rattle.batch_insert.specs.Cases.{Case, IsPrefix, new_closure}
use Rattle.batch_insert.specs.Costs.{copy_cost, generalizing_cost, edges_at, edges_of, nodes_with, weight}
use Rattle.batch_insert.specs.Stages.{new_lead}
use Rattle.batch_insert.specs.Whole.{IsCopyOf}
use Rattle.batch_insert.proofs.Counting.{rows_wide}
use Rattle.batch_insert.proofs.Finished.{ascending}
use Rattle.batch_insert.proofs.Prefixes.{prefix_before, prefix_deep, prefix_leq, prefix_long}
use Rattle.batch_insert.proofs.Labelled.{led_or_own, led_own, source_label, source_rises}
use Rattle.batch_insert.proofs.Records.{new_is, next_prefix}
use Rattle.batch_insert.proofs.Started.{node_of_prefix, record_known}

-- sums
sum_two : {X : Type 0} (f g h : X → ℕ) (xs : List X) → ((x : X) → f x + g x ≤ h x)
    → sum_by f xs + sum_by g xs ≤ sum_by h xs
sum_two f g h [] le = omega arith
sum_two f g h (x ∷ xs) le
    = omega (arith, sum_two f g h xs le, le x, sum_by-cons f x xs, sum_by-cons g x xs, sum_by-cons h x xs)

sum_le : {X : Type 0} (f h : X → ℕ) (xs : List X) → ((x : X) → f x ≤ h x) → sum_by f xs ≤ sum_by h xs
sum_le f h [] le = omega arith
sum_le f h (x ∷ xs) le = omega (arith, sum_le f h xs le, le x, sum_by-cons f x xs, sum_by-cons h x xs)

-- labels, each once
abbrev label : {T : Type 0} → Edge ℕ T → Edge ℕ ℕ
label x = record { dim = x.dim; value = x.value; target = 0 }

labels_once : (xs : List (Edge ℕ ℕ)) → Ascends xs → EachOnce (map label xs)
labels_once [] h = tt
labels_once (x ∷ xs) h = (
  λ m. let y : (y : Edge ℕ ℕ) × Among y xs × (label x ≡ label y) = among_map label (label x) xs m in
      before_apart x y.0 (h.0 y.0 y.1) (record { dim = ap (λ z. z.dim) y.2; value = ap (λ z. z.value) y.2 }),
  labels_once xs h.1,
)

no_more : {T : Type 0} (xs : List (Edge ℕ ℕ)) (ys : List (Edge ℕ T)) → Ascends xs
    → ((x : Edge ℕ ℕ) → Among x xs → (y : Edge ℕ T) × Among y ys × (x.dim ≡ y.dim) × (x.value ≡ y.value))
    → length xs ≤ length ys
no_more xs ys up has =
    let le : sum_by (λ z. 1) (map label xs) ≤ sum_by (λ z. 1) (map label ys)
    = sum_within (λ z. 1) _ _ (labels_once xs up) to in
    omega (arith, le, sum_ones (map label xs), sum_ones (map label ys), length-map xs label, length-map ys label)
  where
    to : (z : Edge ℕ ℕ) → Among z (map label xs) → Among z (map label ys)
    to z m =
        let x : (x : Edge ℕ ℕ) × Among x xs × (z ≡ label x) = among_map label z xs m in
        let y = has x.0 x.1 in
        let same : label y.0 ≡ z = (λ i. record { dim = sym y.2 i; value = sym y.3 i; target = 0 }) ∙ sym x.2 in
        rw (← same) (map_among label y.0 ys y.1)

both_cases : (p q r : Bool) (w : ℕ) → (p ≡ true → r ≡ true) → (q ≡ true → r ≡ true) → (p ≡ true → q ≡ true → ⊥)
    → cond p w 0 + cond q w 0 ≤ cond r w 0
both_cases true true r w a b c = absurd (c refl refl)
both_cases true false true w a b c = omega arith
both_cases true false false w a b c = absurd (true≢false (sym (a refl)))
both_cases false true true w a b c = omega arith
both_cases false true false w a b c = absurd (true≢false (sym (b refl)))
both_cases false false r w a b c = omega arith

cond_le : (r : Bool) (w : ℕ) → cond r w 0 ≤ w
cond_le true w = omega arith
cond_le false w = omega arith

module _ {t : Cell ℕ} {a : Arena} (c : Case t a) where
  -- a node that generalizes t
  listed : (p : Cell ℕ) → IsPrefix c p (depth p) → Among p (nodes_with c)
  listed p front =
      among_filter (λ q. leq (eq_by_cmp nat_cmp) q t) p _
      ((nodes-is nat_cmp_total finmap.nat_cmp-IsAntisymmetric a.width (c.xs ++ c.row ∷ c.ys) (rows_wide c) p).1
      (node_of_prefix c p front)) (prefix_leq c p _ front)

  -- what it costs is within what all cost whose prefix it is
  pub own_cost : (p : Cell ℕ) (i : ℕ) → IsPrefix c p (depth p) → depth p ≤ i → weight c p ≤ generalizing_cost c p i
  unfolding generalizing_cost
  own_cost p i front deep =
      let f : Cell ℕ → ℕ = λ q. cond (cell_eq (eq_by_cmp nat_cmp) (cell_prefix i q) p) (weight c q) 0 in
      let le : sum_by f (p ∷ []) ≤ sum_by f (nodes_with c)
      = sum_within f (p ∷ []) (nodes_with c) ((λ m. m), tt)
      (λ q m. elim m [ inl e ↦ rw e (listed p front) | inr n ↦ absurd n ]) in
      let here : f p ≡ weight c p
      = cond-true _ _ 0 (rw (cell_prefix-beyond i p deep) (cell_eq-same code_equality p)) in
      omega (arith, le, here, sum_by-cons f p [])

  -- the costs of the nodes with t's value in a dimension, and of those with none there
  pub branch_cost : (p : Cell ℕ) (i v : ℕ) → depth p ≤ i → i < length p
      → generalizing_cost c p (suc i) + generalizing_cost c (with_value p i v) (suc i) ≤ generalizing_cost c p i
  unfolding generalizing_cost
  branch_cost p i v d l = sum_two (λ q. cond (cell_eq (eq_by_cmp nat_cmp) (cell_prefix (suc i) q) p) (weight c q) 0)
      (λ q. cond (cell_eq (eq_by_cmp nat_cmp) (cell_prefix (suc i) q) (with_value p i v)) (weight c q) 0)
      (λ q. cond (cell_eq (eq_by_cmp nat_cmp) (cell_prefix i q) p) (weight c q) 0) (nodes_with c)
      (λ q. both_cases (cell_eq (eq_by_cmp nat_cmp) (cell_prefix (suc i) q) p)
      (cell_eq (eq_by_cmp nat_cmp) (cell_prefix (suc i) q) (with_value p i v))
      (cell_eq (eq_by_cmp nat_cmp) (cell_prefix i q) p) (weight c q)
      (λ h. is q p (sym (cell_prefix-cell_prefix i (suc i) q (omega arith))
      ∙ ap (cell_prefix i) (cell_eq-exact code_equality (cell_prefix (suc i) q) p h) ∙ cell_prefix-beyond i p d))
      (λ h. is q p (sym (cell_prefix-cell_prefix i (suc i) q (omega arith))
      ∙ ap (cell_prefix i) (cell_eq-exact code_equality (cell_prefix (suc i) q) (with_value p i v) h)
      ∙ cell_prefix-with_value p i v d))
      (λ h k. let s : p ≡ with_value p i v = sym (cell_eq-exact code_equality (cell_prefix (suc i) q) p h)
      ∙ cell_eq-exact code_equality (cell_prefix (suc i) q) (with_value p i v) k in
      absurd (omega (arith, d, depth-with_value p i v d l, ap depth s))))
    where
      is : (q p : Cell ℕ) → cell_prefix i q ≡ p → cell_eq (eq_by_cmp nat_cmp) (cell_prefix i q) p ≡ true
      is q p e = rw e (cell_eq-same code_equality p)

  all_cost : (p : Cell ℕ) (i : ℕ) → generalizing_cost c p i ≤ sum_by (weight c) (nodes_with c)
  unfolding generalizing_cost
  all_cost p i = sum_le (λ q. cond (cell_eq (eq_by_cmp nat_cmp) (cell_prefix i q) p) (weight c q) 0) (weight c)
      (nodes_with c) (λ q. cond_le (cell_eq (eq_by_cmp nat_cmp) (cell_prefix i q) p) (weight c q))

  -- the labels that are copied are labels of the node with the row
  pub copy_within : (x : LabelCopy) (is : IsCopyOf c x) → copy_cost a.now x ≤ 1 + 2 * edges_at c is.node
  copy_within x is =
      let r = cell_record a.now x.from.0 _ is.from in
      let le = no_more r.0.edges new
      (ascending r.0.edges (source_rises c is.node is.upper is.dim is.front is.closure x.from.0 r.0 r.1
      r.2)) (λ y m. has r.0 r.1 r.2 y m) in
      let same : length (record_at a.now x.from.0).edges ≡ length r.0.edges
      = ap (λ (n : Known). length n.edges) (record_known a.now x.from.0 r.0 r.1) in
      let here : edges_at c is.node ≡ length new
      = ap edges_of (ap (option_map (λ u. record_of nat_cmp 0 (c.xs ++ c.row ∷ c.ys) is.node u))
      (new_is c is.node front)) in
      omega (arith, le, same, here)
    where
      front : IsPrefix c is.node (depth is.node)
      front = prefix_before c is.node _ is.dim (prefix_deep c is.node is.dim is.front) (omega arith) is.front

      new : List (Edge ℕ (Cell ℕ))
      new = (record_of nat_cmp 0 (c.xs ++ c.row ∷ c.ys) is.node (new_closure c is.node)).edges

      has : (r : Known) → finmap.get a.now x.from.0 ≡ Some r → r.cell ≡ cell_prefix is.dim is.upper → (y : Edge ℕ ℕ)
          → Among y r.edges → (z : Edge ℕ (Cell ℕ)) × Among z new × (y.dim ≡ z.dim) × (y.value ≡ z.value)
      has r g cell y m =
          let l = source_label c is.node is.upper is.dim is.front is.closure x.from.0 r g cell y m in
          let to : (q : Cell ℕ) × (new_lead c is.node y.dim y.value ≡ Some q)
          = elim (led_or_own c is.node y.dim y.value l.1 l.0) [
            | inl e ↦ (l.2, e ∙ l.4)
            | inr e ↦ (_, led_own c is.node y.dim y.value l.1 l.0 e)
          ] in (
            record { dim = y.dim; value = y.value; target = to.0 },
            (edges-are nat_cmp_total finmap.nat_cmp-IsAntisymmetric 0 (c.xs ++ c.row ∷ c.ys) is.node
                (new_closure c is.node) (new_is c is.node front) front
                (record { dim = y.dim; value = y.value; target = to.0 })).1
                (record {
                  place = record {
                    behind = prefix_deep c is.node y.dim l.1;
                    before
                        = next_prefix c is.node front y.dim l.0 l.1;
                    within
                        = omega (arith, l.0, prefix_long c is.node y.dim l.1);
                  };
                  leads = to.1;
                }),
            refl,
            refl,
          )

  -- the nodes that generalize the tuple, and their edges
  abbrev table : List (defs.Row ℕ)
  table = c.xs ++ c.row ∷ c.ys

  abbrev both_of : List (Node ℕ (Cell ℕ)) → ℕ
  both_of ns = length ns + sum (map (λ n. length n.edges) ns)

  sized : (qs : List (Cell ℕ))
      → ((q : Cell ℕ) → Among q qs → (r : Node ℕ (Cell ℕ)) × (node_of nat_cmp 0 table q ≡ Some r) × (r.cell ≡ q))
      → (u : Cell ℕ) → u ≡ t
      → sum_by (λ q. 1 + edges_at c q) (filter (λ q. leq (eq_by_cmp nat_cmp) q t) qs)
      ≡ both_of (filter (λ n. leq (eq_by_cmp nat_cmp) n.cell u) (filter_map (node_of nat_cmp 0 table) qs))
  sized [] has u e = refl
  sized (q ∷ qs) has u e =
      let r = has q (inl refl) in
      one r.0 (node_of nat_cmp 0 table q) r.1 refl
      (leq (eq_by_cmp nat_cmp) q t) (leq (eq_by_cmp nat_cmp) r.0.cell u) (ap₂ (leq (eq_by_cmp nat_cmp)) r.2 e) refl
      (sized qs (λ x m. has x (inr m)) u e)
    where
      old : List (Cell ℕ)
      old = filter (λ q. leq (eq_by_cmp nat_cmp) q t) qs

      rest : List (Node ℕ (Cell ℕ))
      rest = filter (λ n. leq (eq_by_cmp nat_cmp) n.cell u) (filter_map (node_of nat_cmp 0 table) qs)

      one : (r : Node ℕ (Cell ℕ)) (o : Option (Node ℕ (Cell ℕ))) → o ≡ Some r → node_of nat_cmp 0 table q ≡ o
          → (b d : Bool) → d ≡ b → leq (eq_by_cmp nat_cmp) r.cell u ≡ d
          → sum_by (λ q. 1 + edges_at c q) old ≡ both_of rest
          → sum_by (λ q. 1 + edges_at c q) (cond b (q ∷ old) old)
          ≡ both_of (filter (λ n. leq (eq_by_cmp nat_cmp) n.cell u)
          (cons_option o (filter_map (node_of nat_cmp 0 table) qs)))
      one r None h k b d e l more = cc
      one r (Some x) h k true true e l more =
          let len : edges_at c q ≡ length x.edges = ap edges_of k in
          let put : both_of (cond (leq (eq_by_cmp nat_cmp) x.cell u) (x ∷ rest) rest) ≡ both_of (x ∷ rest)
          = ap both_of (cond-true (leq (eq_by_cmp nat_cmp) x.cell u) (x ∷ rest) rest
          (rw (some_same h) l)) in
          grown (edges_at c q) (length x.edges) (sum_by (λ q. 1 + edges_at c q) old) (length rest)
          (sum (map (λ n. length n.edges) rest)) (sum_by (λ q. 1 + edges_at c q) (q ∷ old)) len more
          (sum_by-cons (λ q. 1 + edges_at c q) q old)
          ∙ ap (λ n. suc (length rest) + n)
          (sym (sum_by-cons (λ (m : ℕ). m) (length x.edges) (map (λ n. length n.edges) rest))) ∙ sym put
        where
          grown : (e m s l k w : ℕ) → e ≡ m → s ≡ l + k → w ≡ (1 + e) + s → w ≡ suc l + (m + k)
          grown e m s l k w a b c = omega arith
      one r (Some x) h k false false e l more =
          more ∙ sym (ap both_of (cond-false (leq (eq_by_cmp nat_cmp) x.cell u) (x ∷ rest) rest
          (rw (some_same h) l)))
      one r (Some x) h k true false e l more = cc
      one r (Some x) h k false true e l more = cc

  there : (q : Cell ℕ) → Among q (nodes nat_cmp table) → (r : Node ℕ (Cell ℕ)) × (node_of nat_cmp 0 table q ≡ Some r)
      × (r.cell ≡ q)
  there q m =
      let node = (nodes-is nat_cmp_total finmap.nat_cmp-IsAntisymmetric a.width table (rows_wide c) q).0 m in
      let u = node_closed code_equality table q node in
      (record_of nat_cmp 0 table q u.0, ap (option_map (λ u. record_of nat_cmp 0 table q u)) u.1, refl)

  size_is : sum_by (λ q. 1 + edges_at c q) (nodes_with c) ≡ generalizing_size nat_cmp table c.row.tuple
  size_is = sized (nodes nat_cmp table) there (cell_of c.row.tuple) c.tuple

  -- a node's cost by its edges
  weight_bound : (n e : ℕ) → 6 + 2 * e + n * (2 * n + 7 + 2 * e) ≤ 128 * (n + 1) ^ 2 * (1 + e)
  weight_bound n e = rw (square (n + 1)) (product n e)
    where
      product : (n e : ℕ) → 6 + 2 * e + n * (2 * n + 7 + 2 * e) ≤ 128 * ((n + 1) * (n + 1)) * (1 + e)
      product n e = grind arith

  sum_scaled : (k : ℕ) (f g : Cell ℕ → ℕ) (qs : List (Cell ℕ)) → ((q : Cell ℕ) → f q ≤ k * g q)
      → sum_by f qs ≤ k * sum_by g qs
  sum_scaled k f g [] h = omega arith
  sum_scaled k f g (q ∷ qs) h =
      let more = sum_scaled k f g qs h in
      let both : k * (g q + sum_by g qs) ≡ k * g q + k * sum_by g qs = mul-add k (g q) _ in
      let cons : k * sum_by g (q ∷ qs) ≡ k * (g q + sum_by g qs) = ap (λ m. k * m) (sum_by-cons g q qs) in
      omega (arith, more, h q, both, cons, sum_by-cons f q qs)

  pub cost_bound : (p : Cell ℕ) (i : ℕ)
      → generalizing_cost c p i ≤ 128 * (length t + 1) ^ 2 * generalizing_size nat_cmp table c.row.tuple
  cost_bound p i =
      let scaled = sum_scaled (128 * (length t + 1) ^ 2) (weight c) (λ q. 1 + edges_at c q) (nodes_with c)
      (λ q. weight_bound _ _) in
      let same : 128 * (length t + 1) ^ 2 * sum_by (λ q. 1 + edges_at c q) (nodes_with c)
      ≡ 128 * (length t + 1) ^ 2 * generalizing_size nat_cmp table c.row.tuple
      = ap (λ m. 128 * (length t + 1) ^ 2 * m) size_is in
      omega (arith, all_cost p i, scaled, same)
