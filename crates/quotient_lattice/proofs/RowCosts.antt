-- What is counted at the nodes of a tree is what its rows say.
use Rattle.std.proofs.Common.{◌≡◌, ◌≤◌, ◌<◌, ◌+◌, ℕ, zero, suc, Option, Some, None, List, [], ◌∷◌, ◌++◌, map, length, take, get_or}
use Rattle.std.proofs.Common.{nat_eq, refl, sym, ap, ap₂, subst, ◌∙◌, arith}
use Rattle.std.specs.Prelude.{IsSome}
use Rattle.std.specs.Cmp.{nat_cmp_total}
use Rattle.std.specs.FinMap as numbers
use Rattle.std.specs.List.{IsDistinct, sum_by}
use Rattle.std.specs.Option.{option_map, option_map_or}
use Rattle.std.specs.Ordering.{nat_cmp, eq_by_cmp}
use Rattle.std.proofs.lemmas.List.Sums.{sum_by-append, sum_by-cons, sum_by_more_le}
use Rattle.cube_defs.specs.Cell.{Cell, leq}
use Rattle.cube_defs.specs.Rows.{closure}
use Rattle.cube_defs.specs.Tree.{Tree, cell_at, classes, parent_cell_of, renamed}
use Rattle.cube_laws.specs.Lists.{Among}
use Rattle.cube_laws.specs.Parts.{value_count}
use Rattle.cube_laws.proofs.CallerLemmas.{among_filter, among_map, classes-is}
use Rattle.tree_laws.specs.Labels.{record_of}
use Rattle.tree_laws.proofs.CallerLemmas.{once_map, some_same, sum_alike, sum_by-map, sum_within, there}
use Rattle.qc_arena.specs.RecordReaders.{record_at}
use Rattle.tree_search.specs.Found.{IsTreeOf, TreeRows}
use Rattle.tree_search.proofs.CallerLemmas.{cell_of, cell_there, there_is}
use Rattle.iceberg_query.proofs.CallerLemmas.{each_once, edges_are}
use Rattle.quotient_lattice.specs.Candidates.{edges_on_way, edges_up}
use Rattle.quotient_lattice.specs.Costs.{classes_from, edges_above, edges_to, size_from}
use Rattle.quotient_lattice.specs.NodeCells.{IsPassing}

module _ (dims : ℕ) (tree : Tree ℕ) (source : TreeRows) (h : IsTreeOf dims tree source) where
  abbrev cell : ℕ → Cell ℕ
  cell k = (record_at tree k).cell

  -- a node's parent has the cell that the rows say
  parent_is : (k : ℕ) → IsSome (numbers.get tree k) → option_map (cell_at tree) (record_at tree k).parent
      ≡ option_map (λ c. Some c) (parent_cell_of nat_cmp (cell k))
  parent_is k t = by (closure (eq_by_cmp nat_cmp) source.rows (cell k))
      (h.canonical.each k (record_at tree k) (there_is tree k t)).1
    where
      by : (o : Option (Cell ℕ)) → Some (renamed (cell_at tree) (record_at tree k))
          ≡ option_map (renamed (λ c. Some c))
          (option_map (λ u. record_of nat_cmp source.measures source.rows (cell k) u) o)
          → option_map (cell_at tree) (record_at tree k).parent
          ≡ option_map (λ c. Some c) (parent_cell_of nat_cmp (cell k))
      by None e = cc
      by (Some u) e = ap (λ m. m.parent) (some_same e)

  -- the edges at a node and at so many of its ancestors
  above_is : (n k : ℕ) → IsSome (numbers.get tree k) → edges_up tree n k ≡ edges_above nat_cmp source.rows n (cell k)
  above_is zero k t = edges_are dims tree source h k t
  above_is (suc n) k t = ap₂ (λ a b. a + b) (edges_are dims tree source h k t)
      (go (λ j s. above_is n j s) (record_at tree k).parent (parent_cell_of nat_cmp (cell k)) (parent_is k t))
    where
      go : ((j : ℕ) → IsSome (numbers.get tree j) → edges_up tree n j ≡ edges_above nat_cmp source.rows n (cell j))
          → (o : Option ℕ) (q : Option (Cell ℕ)) → option_map (cell_at tree) o ≡ option_map (λ c. Some c) q
          → option_map_or (edges_up tree n) o 0 ≡ option_map_or (edges_above nat_cmp source.rows n) q 0
      go more None None e = refl
      go more None (Some c) e = cc
      go more (Some j) None e = cc
      go more (Some j) (Some c) e = let at : cell_at tree j ≡ Some c = some_same e in
          more j (there tree j c at) ∙ ap (edges_above nat_cmp source.rows n) (cell_of tree j c at)

  -- the edges on the way from the root to a node
  pub way_is : (k : ℕ) → IsSome (numbers.get tree k) → edges_on_way tree k ≡ edges_to nat_cmp source.rows (cell k)
  way_is k t = above_is (value_count (cell k)) k t

  -- what different classes from one on count is within what all of them do
  pub within_size : (start : ℕ) (ks : List ℕ) → IsDistinct nat_eq ks
      → ((k : ℕ) → Among k ks → IsPassing tree source (λ d. leq (eq_by_cmp nat_cmp) (cell start) d) k)
      → sum_by (λ k. edges_on_way tree k + 1) ks ≤ size_from nat_cmp source.rows (cell start)
  within_size start ks once each =
      let same : sum_by (λ k. edges_on_way tree k + 1) ks
      ≡ sum_by (λ d. edges_to nat_cmp source.rows d + 1) (map cell ks)
      = sum_alike (λ k. edges_on_way tree k + 1) (λ k. edges_to nat_cmp source.rows (cell k) + 1) ks
      (λ k m. ap (λ e. e + 1) (way_is k (each k m).there))
      ∙ sym (sum_by-map (λ d. edges_to nat_cmp source.rows d + 1) cell ks) in
      subst (λ n. n ≤ size_from nat_cmp source.rows (cell start)) (sym same)
      (sum_within (λ d. edges_to nat_cmp source.rows d + 1) (map cell ks)
      (classes_from nat_cmp source.rows (cell start)) (once_map cell ks one (each_once ks once)) among)
    where
      one : (j k : ℕ) → Among j ks → Among k ks → cell j ≡ cell k → j ≡ k
      one j k m n e = h.canonical.once j k (cell k) (cell_there tree j (each j m).there ∙ ap (λ c. Some c) e)
          (cell_there tree k (each k n).there)

      among : (d : Cell ℕ) → Among d (map cell ks) → Among d (classes_from nat_cmp source.rows (cell start))
      among d m =
          let r : (k : ℕ) × Among k ks × (d ≡ cell k) = among_map cell d ks m in
          let p = each r.0 r.1 in
          subst (λ c. Among c (classes_from nat_cmp source.rows (cell start))) (sym r.2)
          (among_filter (leq (eq_by_cmp nat_cmp) (cell start)) (cell r.0) (classes nat_cmp source.rows)
          ((classes-is nat_cmp_total numbers.nat_cmp-IsAntisymmetric source.rows dims h.wide (cell r.0)).1 p.class)
          p.passes)

-- a sum with one item more
pub next_counted : (f : ℕ → ℕ) (xs : List ℕ) (x : ℕ) → sum_by f xs + f x ≤ sum_by f (xs ++ x ∷ [])
next_counted f xs x = omega (arith, sum_by-append f xs (x ∷ []), sum_by-cons f x [])

-- so far, and the next item
pub next_within : (f : ℕ → ℕ) (xs : List ℕ) (i x : ℕ) → i < length xs → get_or xs i 0 ≡ x
    → sum_by f (take i xs) + f x ≤ sum_by f xs
next_within f xs i x l at = subst (λ y. sum_by f (take i xs) + f y ≤ sum_by f xs) at (sum_by_more_le f xs i 0 l)
