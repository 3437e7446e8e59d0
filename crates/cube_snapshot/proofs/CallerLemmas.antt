-- The lemmas that other crates cite.
pub use Rattle.cube_snapshot.proofs.StateLaws.{one-state}
