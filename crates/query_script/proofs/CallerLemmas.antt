-- The lemmas that other crates cite.
pub use Rattle.query_script.proofs.CommandFacts.{line-wants}
