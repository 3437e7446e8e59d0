-- The lemmas that other crates cite.
pub use Rattle.lower_bounds.proofs.Counted.{few_values}
pub use Rattle.lower_bounds.proofs.OwnClosure.{class_read, class_there, closed, own_closure}
