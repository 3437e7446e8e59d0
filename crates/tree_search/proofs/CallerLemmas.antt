-- The lemmas that other crates cite.
pub use Rattle.tree_search.proofs.Walked.{cell_of, cell_there, found, next_there, rest, rest_goes, there_is, total_some}
pub use Rattle.tree_search.proofs.Climbed.{has_parent, last_within, wide}
pub use Rattle.tree_search.proofs.TotalAt.{total-at}
