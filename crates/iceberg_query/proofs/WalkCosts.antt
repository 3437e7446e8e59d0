-- What a walk over the descendants of a node costs.
use Rattle.std.proofs.Common.{◌≡◌, ◌≤◌, ◌+◌, ◌*◌, ◌∙◌, ℕ, zero, suc, true, false, Option, Some, None, List, [], ◌∷◌, map, flat_map}
use Rattle.std.proofs.Common.{take, length, replicate, slice_get, nat_eq, true≢false, eq-eqb, refl, sym, ap, subst, arith}
use Rattle.std.specs.Prelude.{IsSome}
use Rattle.std.specs.Cmp.{nat_cmp_total}
use Rattle.std.specs.FinMap as numbers
use Rattle.std.specs.List.{IsDistinct, sum_by}
use Rattle.std.specs.Option.{option_map, option_map_or}
use Rattle.std.specs.Ordering.{nat_cmp, eq_by_cmp}
use Rattle.std.proofs.lemmas.Bool.{cond-false, cond-true}
use Rattle.std.proofs.lemmas.List.{length-map}
use Rattle.std.proofs.lemmas.List.Sums.{sum_by-append, sum_by-cons}
use Rattle.cube_defs.specs.Cell.{Cell}
use Rattle.cube_defs.specs.Rows.{closure}
use Rattle.cube_defs.specs.Tree.{Edge, Node, Tree, cell_at, node_of, nodes, renamed_edge}
use Rattle.cube_laws.specs.Lists.{Among}
use Rattle.cube_laws.proofs.CallerLemmas.{all_at, among_map, nodes-is, take_all}
use Rattle.qc_arena.specs.RecordReaders.{record_at}
use Rattle.tree_laws.specs.Labels.{record_of}
use Rattle.tree_laws.proofs.CallerLemmas.{EachOnce, once_map, sum_alike, sum_by-map, sum_within, there}
use Rattle.tree_search.specs.Found.{IsTreeOf, TreeRows}
use Rattle.tree_search.proofs.CallerLemmas.{cell_there}
use Rattle.iceberg_query.specs.Costs.{edges_at, tree_size, walk_cost}
use Rattle.iceberg_query.specs.Subtree.{is_child, subtree}
use Rattle.iceberg_query.proofs.DistinctClasses.{below_once}
use Rattle.iceberg_query.proofs.Reached.{below_begins, is_node_at, record_of_node}
use Rattle.iceberg_query.proofs.Walked.{edges_more, from_edge, so_far}

-- the node itself
own_cost : (tree : Tree ℕ) (k : ℕ) (ks : List ℕ)
    → walk_cost tree (k ∷ ks) ≡ 2 * (length (record_at tree k).edges + 1) + walk_cost tree ks
own_cost tree k ks = sum_by-cons (λ k. 2 * (length (record_at tree k).edges + 1)) k ks

-- where the walk goes no further
pub no_further_cost : (tree : Tree ℕ) (n k from to : ℕ) → to ≤ from + 1 → to ≤ from + walk_cost tree (subtree tree n k)
no_further_cost tree zero k from to h = omega (arith, h, own_cost tree k [])
no_further_cost tree (suc n) k from to h
    = omega (arith, h, own_cost tree k (flat_map (from_edge tree k n) (record_at tree k).edges))

module _ (tree : Tree ℕ) (k n : ℕ) where
  -- before the first edge
  pub first_cost : (from to : ℕ) → to ≤ from + 2
      → to + 2 * length (record_at tree k).edges ≤ from + 2 * 0 + walk_cost tree (so_far tree k n 0)
  first_cost from to h = omega (arith, h, own_cost tree k (flat_map (from_edge tree k n) (take 0 (record_at tree k).edges)))

  edge_cost : (j : ℕ) (x : Edge ℕ ℕ) → slice_get (record_at tree k).edges j ≡ Some x
      → walk_cost tree (so_far tree k n (j + 1)) ≡ walk_cost tree (so_far tree k n j) + walk_cost tree (from_edge tree k n x)
  edge_cost j x e = ap (walk_cost tree) (edges_more tree k n j x e)
      ∙ sum_by-append (λ k. 2 * (length (record_at tree k).edges + 1)) (so_far tree k n j) (from_edge tree k n x)

  -- after an edge to a child
  pub child_cost : (j : ℕ) (x : Edge ℕ ℕ) (from before now : ℕ) → slice_get (record_at tree k).edges j ≡ Some x
      → is_child tree k x ≡ true
      → before + 2 * length (record_at tree k).edges ≤ from + 2 * j + walk_cost tree (so_far tree k n j)
      → now ≤ before + 2 + walk_cost tree (subtree tree n x.target)
      → now + 2 * length (record_at tree k).edges ≤ from + 2 * (j + 1) + walk_cost tree (so_far tree k n (j + 1))
  child_cost j x from before now e c h l =
      let more : walk_cost tree (so_far tree k n (j + 1)) ≡ walk_cost tree (so_far tree k n j) + walk_cost tree (subtree tree n x.target)
      = edge_cost j x e ∙ ap (λ ks. walk_cost tree (so_far tree k n j) + walk_cost tree ks) (cond-true _ _ _ c) in
      omega (arith, h, l, more)

  -- after another
  pub other_cost : (j : ℕ) (x : Edge ℕ ℕ) (from before now : ℕ) → slice_get (record_at tree k).edges j ≡ Some x
      → is_child tree k x ≡ false
      → before + 2 * length (record_at tree k).edges ≤ from + 2 * j + walk_cost tree (so_far tree k n j)
      → now ≤ before + 2 → now + 2 * length (record_at tree k).edges ≤ from + 2 * (j + 1) + walk_cost tree (so_far tree k n (j + 1))
  other_cost j x from before now e c h l =
      let more : walk_cost tree (so_far tree k n (j + 1)) ≡ walk_cost tree (so_far tree k n j) + walk_cost tree []
      = edge_cost j x e ∙ ap (λ ks. walk_cost tree (so_far tree k n j) + walk_cost tree ks) (cond-false _ _ _ c) in
      omega (arith, h, l, more)

  -- after all
  pub whole_cost : (j from now : ℕ) → length (record_at tree k).edges ≡ j
      → now + 2 * length (record_at tree k).edges ≤ from + 2 * j + walk_cost tree (so_far tree k n j)
      → now ≤ from + walk_cost tree (k ∷ flat_map (from_edge tree k n) (record_at tree k).edges)
  whole_cost j from now len h =
      let all : walk_cost tree (so_far tree k n j) ≡ walk_cost tree (k ∷ flat_map (from_edge tree k n) (record_at tree k).edges)
      = ap (λ xs. walk_cost tree (k ∷ flat_map (from_edge tree k n) xs))
      (take_all (record_at tree k).edges j (omega (arith, len))) in
      omega (arith, h, len, all)

-- no number twice
pub each_once : (xs : List ℕ) → IsDistinct nat_eq xs → EachOnce xs
unfolding IsDistinct
each_once [] h = tt
each_once (x ∷ xs) h = (
  λ m. true≢false (sym (eq-eqb x x refl) ∙ all_at (λ y. nat_eq x y ≡ _) x xs h.0 m),
  each_once xs h.1,
)

module _ (dims : ℕ) (tree : Tree ℕ) (source : TreeRows) (h : IsTreeOf dims tree source) where
  abbrev cell : ℕ → Cell ℕ
  cell k = (record_at tree k).cell

  -- a node's record has as many edges as the rows say
  pub edges_are : (k : ℕ) → IsSome (numbers.get tree k)
      → length (record_at tree k).edges ≡ edges_at nat_cmp source.rows (cell k)
  edges_are k t =
      let r = record_of_node dims tree source h k t in
      sym (length-map (record_at tree k).edges (renamed_edge (cell_at tree)))
      ∙ ap length r.1.edges ∙ length-map r.0.edges (renamed_edge (λ c. Some c)) ∙ same r.0 r.1.is
    where
      same : (m : Node ℕ (Cell ℕ)) → node_of nat_cmp source.measures source.rows (cell k) ≡ Some m
          → length m.edges ≡ edges_at nat_cmp source.rows (cell k)
      same m is = ap (λ o. option_map_or (λ (n : Node ℕ (Cell ℕ)). length n.edges) o 0) (sym is)
          ∙ unmeasured (closure (eq_by_cmp nat_cmp) source.rows (cell k))
        where
          unmeasured : (o : Option (Cell ℕ))
              → option_map_or (λ (n : Node ℕ (Cell ℕ)). length n.edges)
              (option_map (λ u. record_of nat_cmp source.measures source.rows (cell k) u) o) 0
              ≡ option_map_or (λ (n : Node ℕ (Cell ℕ)). length n.edges)
              (option_map (λ u. record_of nat_cmp 0 source.rows (cell k) u) o) 0
          unmeasured None = refl
          unmeasured (Some u) = refl

  -- a walk from the root costs no more than the whole tree
  pub walk_within : (root : ℕ) → cell_at tree root ≡ Some (replicate dims None)
      → walk_cost tree (subtree tree dims root) ≤ 2 * tree_size nat_cmp source.rows
  walk_within root at =
      let ks = subtree tree dims root in
      let f : Cell ℕ → ℕ = λ p. edges_at nat_cmp source.rows p + 1 in
      let same : walk_cost tree ks ≡ sum_by (λ p. 2 * f p) (map cell ks)
      = sum_alike (λ k. 2 * (length (record_at tree k).edges + 1)) (λ k. 2 * f (cell k)) ks
      (λ k m. ap (λ e. 2 * (e + 1)) (edges_are k (below k m)))
      ∙ sym (sum_by-map (λ p. 2 * f p) cell ks) in
      let all : sum_by (λ p. 2 * f p) (map cell ks) ≤ sum_by (λ p. 2 * f p) (nodes nat_cmp source.rows)
      = sum_within (λ p. 2 * f p) (map cell ks) (nodes nat_cmp source.rows)
      (once_map cell ks one (each_once ks (below_once dims tree source h dims root rooted))) among in
      omega (arith, same, all, doubled f (nodes nat_cmp source.rows))
    where
      rooted : IsSome (numbers.get tree root)
      rooted = there tree root (replicate dims None) at

      below : (k : ℕ) → Among k (subtree tree dims root) → IsSome (numbers.get tree k)
      below k m = (below_begins dims tree source h dims root k rooted m).there

      one : (j k : ℕ) → Among j (subtree tree dims root) → Among k (subtree tree dims root) → cell j ≡ cell k → j ≡ k
      one j k m n e = h.canonical.once j k (cell k) (cell_there tree j (below j m) ∙ ap (λ c. Some c) e)
          (cell_there tree k (below k n))

      among : (p : Cell ℕ) → Among p (map cell (subtree tree dims root)) → Among p (nodes nat_cmp source.rows)
      among p m =
          let r : (k : ℕ) × Among k (subtree tree dims root) × (p ≡ cell k)
          = among_map cell p (subtree tree dims root) m in
          subst (λ c. Among c (nodes nat_cmp source.rows)) (sym r.2)
          ((nodes-is nat_cmp_total numbers.nat_cmp-IsAntisymmetric dims source.rows h.wide (cell r.0)).1
          (is_node_at dims tree source h r.0 (below r.0 r.1)))

      doubled : (f : Cell ℕ → ℕ) (xs : List (Cell ℕ)) → sum_by (λ p. 2 * f p) xs ≡ 2 * sum_by f xs
      doubled f [] = refl
      doubled f (x ∷ xs) = omega (arith, sum_by-cons (λ p. 2 * f p) x xs, sum_by-cons f x xs, doubled f xs)
