-- The lemmas that other crates cite.
pub use Rattle.qc_schema.proofs.Keeping.{dims-few, measure-there, measures-few}
pub use Rattle.qc_schema.proofs.Returning.{read-again}
pub use Rattle.qc_schema.proofs.Widening.{bytes-flip, push-different}
pub use Rattle.qc_schema.proofs.Short.{short-text}
