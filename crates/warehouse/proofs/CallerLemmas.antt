-- The lemmas that other crates cite.
pub use Rattle.warehouse.proofs.Decoding.{rows-back}
pub use Rattle.warehouse.proofs.Pinned.{taken-of, tree-after}
pub use Rattle.warehouse.proofs.States.{is-consistent}
