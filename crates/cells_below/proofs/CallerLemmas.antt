-- The lemmas that other crates cite.
pub use Rattle.cells_below.proofs.Turned.{turned-lt, turned_other, turned_same}
pub use Rattle.cells_below.proofs.Ranges.{each_of_all, list_all_each, list_all_range, one_fails, passes_more, range-append, range-shift}
pub use Rattle.cells_below.proofs.Cells.{cell_below, cells_below, more_bits, none_kept, same_cell}
pub use Rattle.cells_below.proofs.Between.{between, bounds_are, closed}
pub use Rattle.cells_below.proofs.BitByBit.{cells_more, kept_same, one_more}
pub use Rattle.cells_below.proofs.Leads.{leads_some}
