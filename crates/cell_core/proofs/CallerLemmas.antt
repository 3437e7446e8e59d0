-- The lemmas that other crates cite.
pub use Rattle.cell_core.proofs.CodesLemmas.{meet_from_points}
