-- On the way from a class's node up to the root.
use Rattle.std.proofs.Common.{◌≡◌, ℕ, zero, suc, ◌+◌, ◌-◌, ◌<◌, ◌≤◌, Bool, true, false, cond, ◌&&◌, nat_eq, nat_lt, lt-ltb, ltb-true}
use Rattle.std.proofs.Common.{Option, Some, None, List, [], ◌∷◌, take, filter, length, refl, sym, ap, ◌∙◌, arith}
use Rattle.std.specs.Prelude.{slice_get, slice_set, IsSome}
use Rattle.std.proofs.lemmas.Bool.{false_from_ne_true}
use Rattle.std.specs.Cmp.{nat_cmp_total}
use Rattle.std.specs.FinMap as map
use Rattle.std.specs.List.{range_with_len}
use Rattle.std.specs.Option.{option_map, option_map_or}
use Rattle.cube_defs.specs.Cell.{Cell, depth, cell_prefix, depth_with, with_value}
use Rattle.cube_defs.specs.Tree.{Edge, Tree, cell_at}
use Rattle.cube_laws.specs.Parts.{value_count}
use Rattle.cube_laws.proofs.CallerLemmas.{nat_eq-turned}
use Rattle.qc_arena.specs.RecordReaders.{record_at}
use Rattle.tree_laws.specs.Walk.{last_label}
use Rattle.tree_laws.proofs.CallerLemmas.{label_none, label_some, parent_is, depth-cell_prefix-le, some_same, there}
use Rattle.tree_search.specs.Found.{IsTreeOf, IsTree, IsNumberOfCell, TreeRows, closure_in}
use Rattle.tree_search.proofs.CallerLemmas.{cell_of, cell_there, there_is, wide}
use Rattle.cells_below.specs.Closed.{has_closure_in}
use Rattle.cells_below.proofs.CallerLemmas.{leads_some}
use Rattle.quotient_lattice.specs.Candidates.{edges_on_way, edges_up, label_leads, lead_count, leads_by, leads_to, new_value}
use Rattle.quotient_lattice.proofs.LabelsLead.{count-one}

-- Any put back where a value was put
pub put_back : (c : Cell ℕ) (i v : ℕ) → slice_get c i ≡ Some None → slice_set (slice_set c i (Some v)) i None ≡ c
put_back [] i v e = refl
put_back (f ∷ c) zero v e = ap (λ x. x ∷ c) (sym (some_same e))
put_back (f ∷ c) (suc i) v e = ap (λ x. f ∷ x) (put_back c i v e)

-- a node's cell has a value or Any in each dimension
pub upper_wide : (dims : ℕ) (tree : Tree ℕ) (k : ℕ) (u : Cell ℕ) → cell_at tree k ≡ Some u → IsTree dims tree
    → length u ≡ dims
upper_wide dims tree k u at t = ap length (sym (cell_of tree k u at)) ∙ wide dims tree t.0 t.1 k (there tree k u at)

abbrev pub one_if : Bool → ℕ
one_if b = cond b 1 0

-- what a search finds, counted
module _ (dims : ℕ) (tree : Tree ℕ) (source : TreeRows) (h : IsTreeOf dims tree source) (c : Cell ℕ) (k : ℕ)
    (t : IsSome (map.get tree k)) where
  pub found_some : (m : ℕ) → IsNumberOfCell tree (Some m) (closure_in source c)
      → ◌≡◌ {A = ℕ} (cond (nat_eq k m) 1 0) (cond (has_closure_in source (record_at tree k).cell c) 1 0)
  found_some m e = ap (λ (b : Bool). one_if b) (nat_eq-turned k m
      ∙ leads_some dims tree k (record_at tree k).cell (cell_there tree k t) source h c m e)

-- one edge more
pub edges_more : {T : Type 0} (p : Edge ℕ T → Bool) (xs : List (Edge ℕ T)) (j : ℕ) (x : Edge ℕ T)
    → slice_get xs j ≡ Some x → length (filter p (take (j + 1) xs)) ≡ length (filter p (take j xs)) + cond (p x) 1 0
edges_more p [] j x e = cc
edges_more p (y ∷ xs) zero x e =
    let same : y ≡ x = some_same e in
    let one : zero + 1 ≡ suc zero = omega arith in
    ap (λ n. length (filter p (take n (y ∷ xs)))) one ∙ count-one p y ∙ ap (λ z. cond (p z) 1 0) same ∙ omega arith
edges_more p (y ∷ xs) (suc j) x e =
    let next : suc j + 1 ≡ suc (j + 1) = omega arith in
    ap (λ n. length (filter p (take n (y ∷ xs)))) next ∙ go (edges_more p xs j x e) (p y)
  where
    go : length (filter p (take (j + 1) xs)) ≡ length (filter p (take j xs)) + cond (p x) 1 0 → (b : Bool)
        → length (cond b (y ∷ filter p (take (j + 1) xs)) (filter p (take (j + 1) xs)))
        ≡ length (cond b (y ∷ filter p (take j xs)) (filter p (take j xs))) + cond (p x) 1 0
    go more true = omega (arith, more)
    go more false = more

-- where a class has a value, no value leads on
pub count_value : (source : TreeRows) (u d : Cell ℕ) (j v n : ℕ) → slice_get u j ≡ Some (Some v) → j < n
    → lead_count source u d (suc j) n ≡ lead_count source u d j n
count_value source u d j v n e l =
    let len : n - j ≡ suc (n - suc j) = omega arith in
    let next : j + 1 ≡ suc j = omega arith in
    let no : leads_to source u d j ≡ false = ap (λ o. leads_by source u d j (new_value o (slice_get d j))) e in
    sym (ap (λ m. length (filter (leads_to source u d) (range_with_len j m))) len
    ∙ ap (λ b. length (cond b (j ∷ filter (leads_to source u d) (range_with_len (j + 1) (n - suc j)))
    (filter (leads_to source u d) (range_with_len (j + 1) (n - suc j))))) no
    ∙ ap (λ a. length (filter (leads_to source u d) (range_with_len a (n - suc j)))) next)

no_values : (c : Cell ℕ) → value_count (cell_prefix zero c) ≡ 0
no_values [] = refl
no_values (e ∷ c) = no_values c

pub flat : (c : Cell ℕ) → depth c ≡ 0 → value_count c ≡ 0
flat [] h = refl
flat (None ∷ c) h = go (flat c) (depth c) refl h
  where
    go : (depth c ≡ 0 → value_count c ≡ 0) → (n : ℕ) → depth c ≡ n → depth_with {A = ℕ} None n ≡ 0 → value_count c ≡ 0
    go more zero e h = more e
    go more (suc n) e h = absurd (omega arith)
flat (Some v ∷ c) h = absurd (omega arith)

-- without its last value a cell has one value less
pub one_less : (c : Cell ℕ) (j : ℕ) → depth c ≡ suc j → value_count c ≡ suc (value_count (cell_prefix j c))
one_less [] j h = absurd (omega arith)
one_less (None ∷ c) zero h = absurd (go (depth c) h)
  where
    go : (n : ℕ) → depth_with {A = ℕ} None n ≡ suc zero → ⊥
    go zero h = omega arith
    go (suc n) h = omega arith
one_less (Some v ∷ c) zero h = let e : depth c ≡ 0 = omega arith in omega (arith, flat c e, no_values c)
one_less (None ∷ c) (suc j) h = go (one_less c j) (depth c) refl h
  where
    go : (depth c ≡ suc j → value_count c ≡ suc (value_count (cell_prefix j c))) → (n : ℕ) → depth c ≡ n
        → depth_with {A = ℕ} None n ≡ suc (suc j) → value_count c ≡ suc (value_count (cell_prefix j c))
    go more zero e h = absurd (omega arith)
    go more (suc n) e h = more (omega arith)
one_less (Some v ∷ c) (suc j) h = let e : depth c ≡ suc j = omega arith in omega (arith, one_less c j e)

-- one node up
module _ (dims : ℕ) (tree : Tree ℕ) (source : TreeRows) (h : IsTreeOf dims tree source) (k : ℕ)
    (t : IsSome (map.get tree k)) (j v : ℕ) (e : last_label (record_at tree k).cell ≡ Some (j, v)) where
  pub record IsUp (m : ℕ) : Type 0 where
    pub there : IsSome (map.get tree m)
    pub front : (record_at tree m).cell ≡ cell_prefix j (record_at tree k).cell
    pub shallower : suc (depth (record_at tree m).cell) ≤ depth (record_at tree k).cell
    pub less : value_count (record_at tree k).cell ≡ suc (value_count (record_at tree m).cell)
    pub edges : edges_on_way tree k ≡ length (record_at tree k).edges + edges_on_way tree m

  deep : depth (record_at tree k).cell ≡ suc j
  deep = (label_some (record_at tree k).cell j v e).0

  module _ {X : Type 0} (name : X → ℕ) (o : Option X) (x : X) (p : option_map name o ≡ (record_at tree k).parent)
      (q : o ≡ Some x) where
    parent : (record_at tree k).parent ≡ Some (name x)
    parent = sym p ∙ ap (option_map name) q

    above : cell_at tree (name x) ≡ Some (cell_prefix j (record_at tree k).cell)
    above =
        some_same (sym (ap (option_map (cell_at tree)) parent)
        ∙ parent_is nat_cmp_total map.nat_cmp-IsAntisymmetric dims source.measures source.rows h.wide tree h.canonical k
        (record_at tree k) (there_is tree k t) j deep)

    pub goes_up : IsUp (name x)
    goes_up =
        let own : (record_at tree (name x)).cell ≡ cell_prefix j (record_at tree k).cell
        = cell_of tree (name x) (cell_prefix j (record_at tree k).cell) above in
        let less : value_count (record_at tree k).cell ≡ suc (value_count (record_at tree (name x)).cell)
        = one_less (record_at tree k).cell j deep ∙ ap (λ c. suc (value_count c)) (sym own) in
        record {
          there = there tree (name x) (cell_prefix j (record_at tree k).cell) above;
          front = own;
          shallower = omega (arith, ap depth own, depth-cell_prefix-le j (record_at tree k).cell, deep);
          less = less;
          edges = ap (λ n. edges_up tree n k) less
              ∙ ap (λ o. length (record_at tree k).edges
              + option_map_or (edges_up tree (value_count (record_at tree (name x)).cell)) o 0) parent;
        }

-- the edges of a node are some of those on its way
pub own_edges : (tree : Tree ℕ) (k : ℕ) → length (record_at tree k).edges ≤ edges_on_way tree k
own_edges tree k = go (value_count (record_at tree k).cell)
  where
    go : (n : ℕ) → length (record_at tree k).edges ≤ edges_up tree n k
    go zero = omega arith
    go (suc n) = omega arith

-- at the root they are all
pub root_edges : (tree : Tree ℕ) (k : ℕ) → last_label (record_at tree k).cell ≡ None
    → edges_on_way tree k ≡ length (record_at tree k).edges
root_edges tree k e = ap (λ n. edges_up tree n k) (flat (record_at tree k).cell (label_none (record_at tree k).cell e))

module _ (source : TreeRows) (u d : Cell ℕ) (end : ℕ) (x : Edge ℕ ℕ) where
  -- a label before the dimension leads where its value does, and one after it isn't looked at
  pub before_end : x.dim < end
      → ◌≡◌ {A = ℕ} (cond (label_leads source u d end x) 1 0)
      (cond (has_closure_in source d (with_value u x.dim x.value)) 1 0)
  before_end l = ap (λ (b : Bool). one_if (b && has_closure_in source d (with_value u x.dim x.value)))
      (lt-ltb x.dim end l)

  pub behind_end : end ≤ x.dim → ◌≡◌ {A = ℕ} (cond (label_leads source u d end x) 1 0) 0
  behind_end l = ap (λ (b : Bool). one_if (b && has_closure_in source d (with_value u x.dim x.value)))
      (false_from_ne_true (nat_lt x.dim end) (λ e. let q = ltb-true x.dim end e in omega arith))
