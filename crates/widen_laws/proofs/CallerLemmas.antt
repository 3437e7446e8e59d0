-- The lemmas that other crates cite.
pub use Rattle.widen_laws.proofs.LongerCells.{depth-any_after, depth-value_after, value_after}
pub use Rattle.widen_laws.proofs.WidenedTrees.{widened_canonical}
