use Rattle.std.proofs.Common.{◌≡◌, ◌<◌, ℕ, List, Some, true, slice_get, subst}
use Rattle.cube_defs.specs.Tree.{Edge}
use Rattle.qc_arena.specs.RecordReaders.{label_lt}
use Rattle.qc_arena.proofs.Labels.{rises_at}
use Rattle.qc_arena.proofs.edge_list.EdgeList.count.Goals as goal

pub returns-clause-rising : goal.returns-clause-rising
returns-clause-rising c =
    subst (λ (es : List (Edge ℕ ℕ)). (i j : ℕ) (e f : Edge ℕ ℕ) → i < j → slice_get es i ≡ Some e
    → slice_get es j ≡ Some f → label_lt e f ≡ true) c.self.view_is (rises_at _ c.self.invariant)
