-- The lemmas that other crates cite.
pub use Rattle.cell_closure.proofs.Rows.{There, all_recursion, code_is, codes_named, is_row, length-named, named-append, named-filter}
pub use Rattle.cell_closure.proofs.Rows.{named_dims, recursion_all, there}
pub use Rattle.cell_closure.proofs.Closing.{all_share, closing_end, closing_step, first_share, shared_long, shared_there, zeroth}
