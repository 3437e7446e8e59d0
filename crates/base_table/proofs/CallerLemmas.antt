-- The lemmas that other crates cite.
pub use Rattle.base_table.proofs.Groups.{total_some}
