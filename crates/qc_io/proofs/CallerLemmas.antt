-- The lemmas that other crates cite.
pub use Rattle.qc_io.proofs.Steps.{taking-taking}
