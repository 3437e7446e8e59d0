-- What a search for a cell tells of the searches for cells that begin as it does.
use Rattle.std.proofs.Common.{◌≡◌, ℕ, ◌+◌, ◌<◌, Option, Some, None, get_or, length, replicate, set, refl, sym, ap, subst, ◌∙◌, arith}
use Rattle.std.specs.Prelude.{IsSome}
use Rattle.std.proofs.lemmas.List.{drop-set-lt, get_or-set_other, get_or-set_same, length-set}
use Rattle.std.specs.FinMap as map
use Rattle.std.specs.Ordering.{nat_cmp, eq_by_cmp}
use Rattle.cube_defs.specs.Cell.{Cell}
use Rattle.cube_defs.specs.Tree.{Tree, cell_at}
use Rattle.qc_arena.specs.RecordReaders.{record_at}
use Rattle.tree_laws.specs.Walk.{walk, walk_on}
use Rattle.tree_search.specs.Found.{IsNumberOfCell, IsTreeOf, TreeRows, closure_in}
use Rattle.tree_search.proofs.CallerLemmas.{found, rest, rest_goes}
use Rattle.cells_below.specs.Closed.{IsReached}

module _ (tree : Tree ℕ) (source : TreeRows) (u : Cell ℕ) where
  pub reached_first : (dims : ℕ) → IsTreeOf dims tree source → length u ≡ dims → (root : ℕ)
      → cell_at tree root ≡ Some (replicate dims None) → IsReached tree source u root 0
  reached_first dims h long root at c l same = found dims tree source h c (l ∙ long) root _ at refl

  module _ (k i : ℕ) (within : i < length u) (there : IsSome (map.get tree k)) (is : IsReached tree source u k i) where
    pub reached_next : (a : Option ℕ) (j : ℕ) → a ≡ get_or u i None
        → walk_on (eq_by_cmp nat_cmp) k (record_at tree k) i a ≡ Some j → IsReached tree source u j (i + 1)
    reached_next a j entry e c l same =
        subst (λ o. IsNumberOfCell tree o (closure_in source c))
        (rest_goes tree c k i a j (omega (arith, l, within)) there (entry ∙ sym (same i (omega arith))) e)
        (is c l (λ m q. same m (omega arith)))

    -- without the value in dimension i
    pub reached_without : walk_on (eq_by_cmp nat_cmp) k (record_at tree k) i None ≡ Some k
        → IsNumberOfCell tree (rest tree u k (i + 1)) (closure_in source (set u i None))
    reached_without e =
        let c : Cell ℕ = set u i None in
        let long : length c ≡ length u = length-set u i None in
        let goes : rest tree c k i ≡ rest tree c k (i + 1) = rest_goes tree c k i None k (omega (arith, long, within)) there
        (sym (get_or-set_same u i None None within)) e in
        let same : rest tree c k (i + 1) ≡ rest tree u k (i + 1)
        = ap (λ s. walk (eq_by_cmp nat_cmp) tree s k (i + 1)) (drop-set-lt (i + 1) u i None (omega arith)) in
        subst (λ o. IsNumberOfCell tree o (closure_in source c)) (goes ∙ same)
        (is c long (λ m q. get_or-set_other u i m None None (λ s. absurd (omega (arith, q, s)))))
