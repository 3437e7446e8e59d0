-- The way of a search, from cell to cell and from dimension to dimension.
use Rattle.std.proofs.Common.{◌≡◌, ◌≢◌, ◌⊎◌, inl, inr, ℕ, suc, ◌+◌, ◌<◌, ◌≤◌, eq-or-lt_of_le, false, Option, Some, None, get_or}
use Rattle.std.proofs.Common.{length, replicate, refl, sym, ap, subst, ◌∙◌, arith}
use Rattle.std.specs.Prelude.{IsSome}
use Rattle.std.proofs.lemmas.List.{drop_all}
use Rattle.std.proofs.Math.Seq.{drop-cons}
use Rattle.std.specs.Cmp.{nat_cmp_total}
use Rattle.std.specs.FinMap as map
use Rattle.std.specs.Option.{option_and_then, option_eq, option_map}
use Rattle.std.specs.Ordering.{nat_cmp, eq_by_cmp}
use Rattle.cube_defs.specs.Cell.{Cell, cell_eq}
use Rattle.cube_defs.specs.Tree.{Tree, cell_at}
use Rattle.qc_arena.specs.RecordReaders.{record_at}
use Rattle.tree_laws.specs.Walk.{walk, walk_on}
use Rattle.tree_laws.proofs.CallerLemmas.{no_root}
use Rattle.tree_search.specs.Found.{IsNumberOfCell, IsTreeOf, TreeRows, closure_in}
use Rattle.tree_search.proofs.CallerLemmas.{rest, there_is}
use Rattle.cells_below.specs.Closed.{IsReached, has_closure_in}
use Rattle.cells_below.specs.Numbers.{cell_of_number}
use Rattle.cells_below.specs.Search.{IsOnWay, node_before}
use Rattle.cells_below.specs.declared.search.CellSearch.{CellSearch}

module _ (tree : Tree ℕ) (source : TreeRows) where
  module _ (u c : Cell ℕ) where
    pub closes_nowhere : IsNumberOfCell tree None (closure_in source c) → has_closure_in source u c ≡ false
    closes_nowhere e = go (closure_in source c) refl e
      where
        go : (o : Option (Cell ℕ)) → closure_in source c ≡ o → None ≡ option_map (λ d. Some d) o
            → has_closure_in source u c ≡ false
        go None q s = ap (λ x. option_eq (cell_eq (eq_by_cmp nat_cmp)) x (Some u)) q
        go (Some w) q s = cc

    pub closes_unrooted : (dims : ℕ) → IsTreeOf dims tree source → length c ≡ dims
        → ((k : ℕ) → cell_at tree k ≢ Some (replicate dims None)) → has_closure_in source u c ≡ false
    closes_unrooted dims h long none =
        closes_nowhere (sym (ap (option_map (λ d. Some d))
        (no_root nat_cmp_total map.nat_cmp-IsAntisymmetric dims source.measures source.rows h.wide tree
        h.canonical c long none)))

    module _ (k i : ℕ) (is : IsReached tree source c k i) where
      pub closes_stopped : (a : Option ℕ) → i < length c → IsSome (map.get tree k) → a ≡ get_or c i None
          → walk_on (eq_by_cmp nat_cmp) k (record_at tree k) i a ≡ None → has_closure_in source u c ≡ false
      closes_stopped a l t asked e =
          let stops : rest tree c k i ≡ None
          = ap (λ s. walk (eq_by_cmp nat_cmp) tree s k i) (drop-cons c i None l)
          ∙ ap (option_and_then (λ n. option_and_then (λ j. rest tree c j (suc i))
          (walk_on (eq_by_cmp nat_cmp) k n i (get_or c i None)))) (there_is tree k t)
          ∙ ap (option_and_then (λ j. rest tree c j (suc i)))
          (ap (walk_on (eq_by_cmp nat_cmp) k (record_at tree k) i) (sym asked) ∙ e) in
          closes_nowhere (subst (λ o. IsNumberOfCell tree o (closure_in source c)) stops (is c refl (λ j q. refl)))

      pub at_end : length c ≤ i → IsNumberOfCell tree (Some k) (closure_in source c)
      at_end l = subst (λ o. IsNumberOfCell tree o (closure_in source c))
          (ap (λ s. walk (eq_by_cmp nat_cmp) tree s k i) (drop_all i c l)) (is c refl (λ j q. refl))

-- what holds below n and at n holds below n + 1
at_last : (P : ℕ → Type 0) (n : ℕ) → P n → ((i : ℕ) → i < n → P i) → (i : ℕ) → i < n + 1 → P i
at_last P n last before i l = go (eq-or-lt_of_le (omega arith))
  where
    go : (i ≡ n) ⊎ (i < n) → P i
    go (inl same) = subst P (sym same) last
    go (inr less) = before i less

module _ (width : ℕ) (tree : Tree ℕ) (u : Cell ℕ) (s : CellSearch) (way : IsOnWay width tree u s) where
  -- at the last node that it knows
  module _ (i k : ℕ) (known : s.known ≡ i + 1) (at : k ≡ node_before s.nodes i) where
    pub stands_there : IsSome (map.get tree k)
    stands_there = subst (λ n. IsSome (map.get tree n)) (sym at) (way.there i (omega (arith, known)))

    pub stands_reached : (source : TreeRows) → IsTreeOf width tree source → IsReached tree source s.cell k i
    stands_reached source h
        = subst (λ n. IsReached tree source s.cell n i) (sym at) (way.reached source h i (omega (arith, known)))

  -- one node more
  pub way_pushed : (t : CellSearch) (k : ℕ) → s.known ≤ width → t.cell ≡ s.cell → t.number ≡ s.number
      → t.known ≡ s.known + 1
      → node_before t.nodes s.known ≡ k
      → ((i : ℕ) → i < s.known → node_before t.nodes i ≡ node_before s.nodes i) → IsSome (map.get tree k)
      → ((source : TreeRows) → IsTreeOf width tree source → IsReached tree source s.cell k s.known)
      → IsOnWay width tree u t
  way_pushed t k few cell number known here others there reached = record {
    cell = cell ∙ way.cell ∙ ap (cell_of_number u) (sym number);
    long = ap length cell ∙ way.long;
    few = omega (arith, known, few);
    there = λ i l. at_last (λ i. IsSome (map.get tree (node_before t.nodes i))) s.known
        (subst (λ n. IsSome (map.get tree n)) (sym here) there)
        (λ i l. subst (λ n. IsSome (map.get tree n)) (sym (others i l)) (way.there i l)) i (omega (arith, known, l));
    reached = λ source h i l. subst (λ v. IsReached tree source v (node_before t.nodes i) i) (sym cell)
        (at_last (λ i. IsReached tree source s.cell (node_before t.nodes i) i) s.known
        (subst (λ n. IsReached tree source s.cell n s.known) (sym here) (reached source h))
        (λ i l. subst (λ n. IsReached tree source s.cell n i) (sym (others i l)) (way.reached source h i l)) i
        (omega (arith, known, l)));
  }
