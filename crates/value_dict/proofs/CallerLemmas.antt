-- The lemmas that other crates cite.
pub use Rattle.value_dict.proofs.AskedValues.{text_anti, text_total}
pub use Rattle.value_dict.proofs.AskedRanges.{range-asked}
pub use Rattle.value_dict.proofs.Cells.{cell_from_entries, entry_at, no_cell_at}
pub use Rattle.value_dict.proofs.Dictionaries.{came_and_gone, with_lists}
pub use Rattle.value_dict.proofs.Distinct.{IsDistinct-push, code_of_place, same_bytes}
pub use Rattle.value_dict.proofs.Lists.{code_pushed, none_passes}
pub use Rattle.value_dict.proofs.Places.{any-within, places-apart, text_equality, within-any}
pub use Rattle.value_dict.proofs.TextsApart.{rows-back, rows-coded, texts-apart, texts-known, told-known}
pub use Rattle.value_dict.proofs.DecodedCells.{Fits, fits, has-texts, told-coded, total-coded, total-missing}
pub use Rattle.value_dict.proofs.DecodedClasses.{IsToldClass, class-missing, class-told}
