-- The lemmas that other crates cite.
pub use Rattle.text_lines.proofs.Sizes.{bytes-append, bytes-push, field-within}
pub use Rattle.text_lines.proofs.TextRecords.{text-records}
pub use Rattle.text_lines.proofs.Unmarked.{no_longer, no_second}
pub use Rattle.text_lines.proofs.Pieces.{no-records, plain-record, split-cut}
pub use Rattle.text_lines.proofs.PlainLines.{after_commas, is_bare, line-record}
