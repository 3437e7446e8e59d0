-- Where a node with the row is still to come, there are more nodes than are there.
use Rattle.std.proofs.Common.{◌≡◌, ◌≢◌, inl, inr, ℕ, suc, ◌<◌, ◌≤◌, true, Option, Some, None, List, ◌∷◌, ◌++◌, map, length, nat_cmp}
use Rattle.std.proofs.Common.{replicate, refl, sym, ap, ◌∙◌, arith}
use Rattle.std.specs.List.{AllByRecursion, sum_by}
use Rattle.std.specs.Cmp.{nat_cmp_total}
use Rattle.std.specs.Ordering.{eq_by_cmp}
use Rattle.std.specs.FinMap as numbers
use Rattle.std.proofs.lemmas.List.{length-map}
use Rattle.cube_defs.specs.Cell.{Cell, depth, mask}
use Rattle.cube_defs.specs.Rows.{Row, is_node}
use Rattle.cube_defs.specs.Tree.{Tree, cell_at, nodes}
use Rattle.cube_laws.specs.Lists.{Among}
use Rattle.cube_laws.proofs.CallerLemmas.{length-cell_of, among_map, none_some, nodes-is, node-insert, code_equality}
use Rattle.tree_laws.proofs.CallerLemmas.{nodes_counted, entries_once, entry_get, cell_record, some_same, sum_ones, sum_within}
use Rattle.qc_arena.specs.Map.{Arena, Known}
use Rattle.batch_insert.specs.declared.plan.PlannedNode.{PlannedNode}
use Rattle.batch_insert.specs.Begun.{IsBegun}
use Rattle.batch_insert.specs.Cases.{Case, IsPrefix, new_nodes}
use Rattle.batch_insert.specs.Whole.{IsPlannedNodeOf}
use Rattle.batch_insert.proofs.Each.{flat_prefix, not_begun}
use Rattle.batch_insert.proofs.Finished.{all_more}
use Rattle.batch_insert.proofs.Keeping.{cell_known}
use Rattle.batch_insert.proofs.Started.{node_of_prefix}
use Rattle.tree_search.specs.Found.{IsTreeOf}

-- a map of some nodes, each once, misses a node
module _ (rows : List (Row ℕ)) (dims : ℕ) (wide : AllByRecursion (λ row. length row.tuple ≡ dims) rows) (b : Tree ℕ)
    (each : (k : ℕ) (n : Known) → numbers.get b k ≡ Some n → is_node (eq_by_cmp nat_cmp) rows n.cell ≡ true)
    (once : (k l : ℕ) (n m : Known) → numbers.get b k ≡ Some n → numbers.get b l ≡ Some m → n.cell ≡ m.cell
    → k ≡ l) (p : Cell ℕ) (node : is_node (eq_by_cmp nat_cmp) rows p ≡ true) (new : (k : ℕ)
    → cell_at b k ≢ Some p) where
  abbrev cells : List (Cell ℕ)
  cells = map (λ e. e.1.cell) (numbers.entries b)

  at_entry : (q : Cell ℕ) → Among q cells → (k : ℕ) × (n : Known) × (numbers.get b k ≡ Some n) × (q ≡ n.cell)
  at_entry q m =
      let e : (e : ℕ × Known) × Among e (numbers.entries b) × (q ≡ e.1.cell)
      = among_map (λ (e : ℕ × Known). e.1.cell) q (numbers.entries b) m in
      (e.0.0, e.0.1, entry_get b e.0 e.1, e.2)

  to_nodes : (q : Cell ℕ) → Among q (p ∷ cells) → Among q (nodes nat_cmp rows)
  to_nodes q (inl e) = (nodes-is nat_cmp_total numbers.nat_cmp-IsAntisymmetric dims rows wide q).1
      (ap (is_node (eq_by_cmp nat_cmp) rows) e ∙ node)
  to_nodes q (inr m) = let r = at_entry q m in
      (nodes-is nat_cmp_total numbers.nat_cmp-IsAntisymmetric dims rows wide q).1
      (ap (is_node (eq_by_cmp nat_cmp) rows) r.3 ∙ each r.0 r.1 r.2)

  pub fewer : numbers.len b < length (nodes nat_cmp rows)
  fewer =
      let apart : Among p cells → ⊥ = λ m. let r = at_entry p m in
      new r.0 (cell_known b r.0 r.1 r.2 ∙ ap (λ x. Some x) (sym r.3)) in
      let le : sum_by (λ c. 1) (p ∷ cells) ≤ sum_by (λ c. 1) (nodes nat_cmp rows)
      = sum_within (λ c. 1) (p ∷ cells) (nodes nat_cmp rows) (apart, entries_once b (λ n. n.cell) once) to_nodes in
      let one : sum_by (λ c. 1) (p ∷ cells) ≡ suc (length cells) = sum_ones (p ∷ cells) in
      let all : sum_by (λ c. 1) (nodes nat_cmp rows) ≡ length (nodes nat_cmp rows) = sum_ones _ in
      let many : numbers.len b ≡ length cells = numbers.len-entries b
      ∙ sym (length-map (numbers.entries b) (λ e. e.1.cell)) in
      omega (arith, le, one, all, many)

module _ {t : Cell ℕ} {a : Arena} (c : Case t a) where
  pub rows_wide : AllByRecursion (λ row. length row.tuple ≡ a.width) (c.xs ++ c.row ∷ c.ys)
  rows_wide = all_more (λ row. length row.tuple ≡ a.width) c.xs c.ys c.row c.from.wide (sym (length-cell_of c.row.tuple)
      ∙ ap length c.tuple ∙ c.wide)

  module _ (b : Tree ℕ) (f : ℕ → Option ℕ) (begun : IsBegun c b f) (p : Cell ℕ) (front : IsPrefix c p (depth p))
      (none : f (mask p) ≡ None) (new : (k : ℕ) → cell_at a.now k ≢ Some p) where
    each : (k : ℕ) (n : Known) → numbers.get b k ≡ Some n
        → is_node (eq_by_cmp nat_cmp) (c.xs ++ c.row ∷ c.ys) n.cell ≡ true
    each k n h = elim (begun.left k n h) [
      | inl old ↦ node-insert code_equality c.xs c.row c.ys n.cell (c.from.canonical.each k n old).0
      | inr numbered ↦ let q = begun.nodes _ k numbered in
          node_of_prefix c n.cell (rw (← (some_same (sym q.1 ∙ cell_known b k n h))) q.3)
    ]

    numbered_prefix : (k : ℕ) (n : Known) → numbers.get b k ≡ Some n → f (mask n.cell) ≡ Some k
        → IsPrefix c n.cell (depth n.cell)
    numbered_prefix k n h g = let q = begun.nodes _ k g in
        rw (← (some_same (sym q.1 ∙ cell_known b k n h))) q.3

    once : (k l : ℕ) (n m : Known) → numbers.get b k ≡ Some n → numbers.get b l ≡ Some m → n.cell ≡ m.cell → k ≡ l
    once k l n m h g e = elim (begun.left k n h) [
      | inl old ↦ elim (begun.left l m g) [
        | inl also ↦ c.from.canonical.once k l n.cell (cell_known a.now k n old) (cell_known a.now l m also
            ∙ ap (λ x. Some x) (sym e))
        | inr numbered ↦ begun.old _ l k n.cell numbered (cell_known a.now k n old)
            (rw e (numbered_prefix l m g numbered)) (ap mask e)
      ]
      | inr numbered ↦ elim (begun.left l m g) [
        | inl also ↦ sym (begun.old _ k l m.cell numbered (cell_known a.now l m also)
            (rw (← e) (numbered_prefix k n h numbered)) (ap mask (sym e)))
        | inr twice ↦ some_same (sym numbered ∙ ap f (ap mask e) ∙ twice)
      ]
    ]

    apart : (k : ℕ) → cell_at b k ≢ Some p
    apart k h =
        let n = cell_record b k p h in
        elim (begun.left k n.0 n.1) [
          | inl old ↦ new k (cell_known a.now k n.0 old ∙ ap (λ x. Some x) n.2)
          | inr numbered ↦ none_some (sym none ∙ ap f (ap mask (sym n.2)) ∙ numbered)
        ]

    pub more_nodes : numbers.len b < new_nodes c
    more_nodes = fewer (c.xs ++ c.row ∷ c.ys) a.width rows_wide b each once p (node_of_prefix c p front) apart

  -- a spot that comes, and the root
  pub spot_more : (b : Tree ℕ) (f : ℕ → Option ℕ) (s : PlannedNode) (max : ℕ) → IsBegun c b f → f s.mask ≡ None
      → IsPlannedNodeOf c s → s.old ≡ None → numbers.len b ≡ max → max < new_nodes c
  spot_more b f s max begun none is old full =
      let m = more_nodes b f begun is.node (rw is.deep is.front) (ap f is.dims ∙ none)
      (rw old at is.old) in
      omega (arith, m, full)

  pub top_more : (max : ℕ) → ((k : ℕ) → cell_at a.now k ≢ Some (replicate a.width None)) → numbers.len a.now ≡ max
      → max < new_nodes c
  top_more max new full =
      let m = more_nodes a.now (λ _. None) (not_begun c (λ _. None) (λ _. refl)) (replicate a.width None)
      (flat_prefix c (λ _. None) (λ _. refl)) refl new in
      omega (arith, m, full)

-- the nodes of a canonical tree
pub fits_in : (dims measures max : ℕ) (rows : List (Row ℕ)) (b : Tree ℕ)
    → IsTreeOf dims b (record { measures = measures; rows = rows }) → numbers.len b ≤ max
    → length (nodes nat_cmp rows) ≤ max
fits_in dims measures max rows b from few = let n
    = nodes_counted nat_cmp_total numbers.nat_cmp-IsAntisymmetric dims measures rows from.wide b from.canonical in
    omega (arith, n, few)
