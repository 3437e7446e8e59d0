-- A cell read from its end to its prefix, and a node's cell on the way up to the root.
use Rattle.std.proofs.Common.{◌≡◌, ℕ, zero, suc, ◌-◌, ◌≤◌, ◌==◌, Option, Some, None, List, [], ◌∷◌, length, replicate, refl, sym, ap, ap₂}
use Rattle.std.proofs.Common.{subst, ◌∙◌, slice_get, arith, eqb-true, eq-eqb}
use Rattle.std.specs.Prelude.{slice_index_or}
use Rattle.std.proofs.lemmas.Bool.{cond-true, cond-false, false_from_ne_true}
use Rattle.std.specs.List.{AllByRecursion}
use Rattle.std.specs.Option.{option_map, option_and_then}
use Rattle.std.specs.declared.cmp.Ordering.{Ordering}
use Rattle.std.specs.Ordering.{eq_by_cmp}
use Rattle.std.specs.Cmp.{IsTotalOrder}
use Rattle.std.specs.FinMap as map
use Rattle.cube_defs.specs.Cell.{Cell, cell_eq, cell_prefix, depth, depth_with, depth_index, with_value}
use Rattle.cube_defs.specs.Rows.{Row, closure, agg}
use Rattle.cube_defs.specs.Tree.{Node, Tree, IsCanonical, cell_at, renamed, parent_cell_of}
use Rattle.cube_laws.proofs.CallerLemmas.{IsEquality, length-cell_prefix, cell_prefix-depth_cell_prefix, cell_prefix-depth, cell_eq-same}
use Rattle.cube_laws.proofs.CallerLemmas.{depth-le, closure_idem, agg_same, closure_length, node_closed, equality_by}
use Rattle.tree_laws.specs.Labels.{record_of}
use Rattle.tree_laws.specs.Walk.{last_label, climb, climb_from, climb_on}
use Rattle.tree_laws.proofs.Lists.{cell_record, some_same}
use Rattle.tree_laws.proofs.Prefixes.{depth-cell_prefix-le, cell_prefix-cell_prefix, get-cell_prefix, split_last}
use Rattle.tree_laws.proofs.Walks.{record_read}

module _ {A : Type 0} where
  -- the entries from dimension n on, and Any before
  abbrev pub from_on : ℕ → Cell A → Cell A
  from_on n [] = []
  from_on zero (e ∷ c) = e ∷ c
  from_on (suc n) (e ∷ c) = None ∷ from_on n c

  pub from_zero : (c : Cell A) → from_on 0 c ≡ c
  from_zero [] = refl
  from_zero (e ∷ c) = refl

  from_value : (c : Cell A) (j : ℕ) (v : A) → slice_get c j ≡ Some (Some v)
      → with_value (from_on (suc j) c) j v ≡ from_on j c
  from_value [] j v h = refl
  from_value (e ∷ c) zero v h = ap₂ (λ x y. x ∷ y) (sym (cc)) (from_zero c)
  from_value (e ∷ c) (suc j) v h = ap (λ x. None ∷ x) (from_value c j v h)

  -- nothing stands between a prefix's end and its length
  from_prefix : (c : Cell A) (j : ℕ) → from_on j c ≡ from_on (depth (cell_prefix j c)) c
  from_prefix [] j = refl
  from_prefix (e ∷ c) zero = ap (λ n. from_on n (e ∷ c)) (sym flat)
    where
      flat : depth (cell_prefix zero (e ∷ c)) ≡ 0
      flat = let l = depth-cell_prefix-le zero (e ∷ c) in omega arith
  from_prefix (e ∷ c) (suc j) = go e (depth (cell_prefix j c)) (from_prefix c j)
    where
      go : (e : Option A) (d : ℕ) → from_on j c ≡ from_on d c → None ∷ from_on j c ≡ from_on (depth_with e d) (e ∷ c)
      go None zero h = ap (λ x. None ∷ x) (h ∙ from_zero c)
      go None (suc d) h = ap (λ x. None ∷ x) h
      go (Some v) d h = ap (λ x. None ∷ x) h

  from_end : (c : Cell A) → from_on (depth c) c ≡ replicate (length c) None
  from_end [] = refl
  from_end (e ∷ c) = go e (depth c) (from_end c)
    where
      go : (e : Option A) (d : ℕ) → from_on d c ≡ replicate (length c) None
          → from_on (depth_with e d) (e ∷ c) ≡ None ∷ replicate (length c) None
      go None zero h = ap (λ x. None ∷ x) (sym (from_zero c) ∙ h)
      go None (suc d) h = ap (λ x. None ∷ x) h
      go (Some v) d h = ap (λ x. None ∷ x) h

  label_of : (c : Cell A) (j : ℕ) (v : A) → depth c ≡ suc j → slice_get c j ≡ Some (Some v) → last_label c ≡ Some (j, v)
  label_of c j v d e =
      ap (λ n. option_and_then (λ i. option_map (λ w. (i, w)) (slice_index_or c i None)) (depth_index n)) d
      ∙ ap (option_map (λ w. (j, w))) (entry c j e)
    where
      entry : (c : Cell A) (j : ℕ) → slice_get c j ≡ Some (Some v) → slice_index_or c j None ≡ Some v
      entry [] j h = cc
      entry (x ∷ c) zero h = cc
      entry (x ∷ c) (suc j) h = entry c j h

  -- what the last label says
  pub label_none : (c : Cell A) → last_label c ≡ None → depth c ≡ 0
  label_none c h = go (depth c) refl
    where
      go : (d : ℕ) → depth c ≡ d → depth c ≡ 0
      go zero e = e
      go (suc j) e = let r = split_last c j e in let l = label_of c j r.0 e r.2 in cc

  pub label_some : (c : Cell A) (j : ℕ) (v : A) → last_label c ≡ Some (j, v) → (depth c ≡ suc j)
      × (slice_get c j ≡ Some (Some v))
  label_some c j v h = go (depth c) refl
    where
      go : (d : ℕ) → depth c ≡ d → (depth c ≡ suc j) × (slice_get c j ≡ Some (Some v))
      go zero e = let l : last_label c ≡ None
          = ap (λ n. option_and_then (λ i. option_map (λ w. (i, w)) (slice_index_or c i None)) (depth_index n)) e in cc
      go (suc k) e =
          let r = split_last c k e in
          let l = label_of c k r.0 e r.2 in
          let p : ◌≡◌ {A = ℕ × A} (k, r.0) (j, v) = cc in
          let first : k ≡ j = ap (λ x. x.0) p in
          let second : r.0 ≡ v = ap (λ x. x.1) p in
          (e ∙ ap suc first, ap (slice_get c) (sym first) ∙ r.2 ∙ ap (λ w. Some (Some w)) second)

  -- out has what the cell has after its prefix p
  pub record Shows (cell p out : Cell A) : Type 0 where
    pub front : p ≡ cell_prefix (depth p) cell
    pub rest : out ≡ from_on (depth p) cell

  pub shows_first : (cell : Cell A) (n : ℕ) → length cell ≡ n → Shows cell cell (replicate n None)
  shows_first cell n h = record {
    front = sym (cell_prefix-depth cell);
    rest = ap (λ m. replicate m None) (sym h)
        ∙ sym (from_end cell);
  }

  pub shows_more : (cell p out : Cell A) (j : ℕ) (v : A) → Shows cell p out → last_label p ≡ Some (j, v)
      → Shows cell (cell_prefix j p) (with_value out j v)
  shows_more cell p out j v h e =
      let l : (depth p ≡ suc j) × (slice_get p j ≡ Some (Some v)) = label_some p j v e in
      let long : p ≡ cell_prefix (suc j) cell = h.front ∙ ap (λ n. cell_prefix n cell) l.0 in
      let short : cell_prefix j p ≡ cell_prefix j cell = ap (cell_prefix j) long
      ∙ cell_prefix-cell_prefix j (suc j) cell (omega arith) in
      let at : slice_get cell j ≡ Some (Some v) = sym (get-cell_prefix j (suc j) cell (omega arith))
      ∙ ap (λ x. slice_get x j) (sym long) ∙ l.1 in
      record {
        front = short ∙ sym (cell_prefix-depth_cell_prefix j cell) ∙ ap (λ x. cell_prefix (depth x) cell) (sym short);
        rest = ap (λ x. with_value x j v) (h.rest ∙ ap (λ n. from_on n cell) l.0) ∙ from_value cell j v at
            ∙ from_prefix cell j ∙ ap (λ x. from_on (depth x) cell) (sym short);
      }

  pub shows_all : (cell p out : Cell A) → Shows cell p out → last_label p ≡ None → out ≡ cell
  shows_all cell p out h e = h.rest ∙ ap (λ n. from_on n cell) (label_none p e) ∙ from_zero cell

module _ {A : Type 0} {cmp : A → A → Ordering} (total : IsTotalOrder cmp) (anti : map.IsAntisymmetric cmp)
    (dims measures : ℕ) (rows : List (Row A)) (wide : AllByRecursion (λ row. length row.tuple ≡ dims) rows)
    (tree : Tree A) (canonical : IsCanonical cmp measures rows tree) where
  law : IsEquality (eq_by_cmp cmp)
  law = equality_by total anti

  module _ (k : ℕ) (n : Node A ℕ) (g : map.get tree k ≡ Some n) where
    -- a node has a closure, whose prefix it is
    node_closure : (u : Cell A) × (closure (eq_by_cmp cmp) rows n.cell ≡ Some u)
        × (cell_prefix (depth n.cell) u ≡ n.cell)
    node_closure = node_closed law rows n.cell (canonical.each k n g).0

    record_is : renamed (cell_at tree) n ≡ renamed (λ c. Some c) (record_of cmp measures rows n.cell node_closure.0)
    record_is = record_read total anti dims measures rows wide tree canonical k n node_closure.0 g node_closure.1

    -- a node's cell has all dimensions
    pub node_wide : length n.cell ≡ dims
    node_wide = ap length (sym node_closure.2) ∙ length-cell_prefix (depth n.cell) node_closure.0
        ∙ closure_length (eq_by_cmp cmp) dims n.cell node_closure.0 rows wide node_closure.1

    -- the parent has the cell without its last value
    pub parent_is : (j : ℕ) → depth n.cell ≡ suc j
        → option_map (cell_at tree) n.parent ≡ Some (Some (cell_prefix j n.cell))
    parent_is j d = ap (λ n. n.parent) record_is ∙ cut n.cell d
      where
        less : (n : ℕ) → n ≡ suc j → n - 1 ≡ j
        less n e = omega arith

        cut : (p : Cell A) → depth p ≡ suc j
            → option_map (λ c. Some c) (parent_cell_of cmp p) ≡ Some (Some (cell_prefix j p))
        cut p d =
            ap (option_map (λ c. Some c))
            (cond-false (depth p == 0) None (Some (cell_prefix (depth p - 1) p))
            (false_from_ne_true _ (λ s. let t : depth p ≡ 0 = eqb-true (depth p) 0 s in absurd (omega arith))))
            ∙ ap (λ n. Some (Some (cell_prefix n p))) (less (depth p) d)

    pub root_parent : depth n.cell ≡ 0 → n.parent ≡ None
    root_parent d = none n.parent (ap (λ n. n.parent) record_is
        ∙ ap (option_map (λ c. Some c))
        (cond-true (depth n.cell == 0) None (Some (cell_prefix (depth n.cell - 1) n.cell)) (eq-eqb (depth n.cell) 0 d)))
      where
        none : (o : Option ℕ) → option_map (cell_at tree) o ≡ None → o ≡ None
        none None e = refl
        none (Some l) e = cc

    -- at the node of a cell's closure stands the cell's aggregate
    pub class_is : (c : Cell A) → closure (eq_by_cmp cmp) rows c ≡ Some n.cell
        → n.class ≡ Some (agg (eq_by_cmp cmp) measures rows c)
    class_is c q =
        let idem : closure (eq_by_cmp cmp) rows n.cell ≡ Some n.cell = closure_idem law rows c n.cell q in
        let own : node_closure.0 ≡ n.cell = some_same (sym node_closure.1 ∙ idem) in
        ap (λ n. n.class) record_is
        ∙ cond-true _ _ _ (ap (λ x. cell_eq (eq_by_cmp cmp) x n.cell) own ∙ cell_eq-same law n.cell)
        ∙ ap (λ a. Some a) (agg_same law measures rows n.cell c n.cell idem q)

  climb_shows : (steps k : ℕ) (n : Node A ℕ) (cell out : Cell A) → map.get tree k ≡ Some n → Shows cell n.cell out
      → depth n.cell ≤ steps → climb tree steps k out ≡ cell
  climb_shows zero k n cell out g h l = h.rest ∙ ap (λ d. from_on d cell) (let d : depth n.cell ≡ 0 = omega arith in d)
      ∙ from_zero cell
  climb_shows (suc steps) k n cell out g h low = ap (climb_from (climb tree steps) out) g
      ∙ go (climb_shows steps) (last_label n.cell) refl
    where
      go : ((k : ℕ) (n : Node A ℕ) (cell out : Cell A) → map.get tree k ≡ Some n → Shows cell n.cell out
          → depth n.cell ≤ steps → climb tree steps k out ≡ cell) → (o : Option (ℕ × A)) → last_label n.cell ≡ o
          → climb_on (climb tree steps) out o n.parent ≡ cell
      go more None e = shows_all cell n.cell out h e
      go more (Some label) e = by n.parent (parent_is k n g label.0 s.0)
        where
          s : (depth n.cell ≡ suc label.0) × (slice_get n.cell label.0 ≡ Some (Some label.1))
          s = label_some n.cell label.0 label.1 e

          by : (o : Option ℕ) → option_map (cell_at tree) o ≡ Some (Some (cell_prefix label.0 n.cell))
              → climb_on (climb tree steps) out (Some label) o ≡ cell
          by None f = cc
          by (Some l) f =
              let m : (m : Node A ℕ) × (map.get tree l ≡ Some m) × (m.cell ≡ cell_prefix label.0 n.cell)
              = cell_record tree l (cell_prefix label.0 n.cell) (some_same f) in
              more l m.0 cell (with_value out label.0 label.1) m.1
              (subst (λ p. Shows cell p (with_value out label.0 label.1)) (sym m.2)
              (shows_more cell n.cell out label.0 label.1 h e))
              (omega (arith, low, ap depth m.2, depth-cell_prefix-le label.0 n.cell, s.0))

  -- going up from a node finds its cell
  pub climb_is : (k : ℕ) (n : Node A ℕ) → map.get tree k ≡ Some n → climb tree dims k (replicate dims None) ≡ n.cell
  climb_is k n g = climb_shows dims k n n.cell (replicate dims None) g (shows_first n.cell dims (node_wide k n g))
      (omega (arith, depth-le n.cell, node_wide k n g))
