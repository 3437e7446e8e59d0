use Rattle.row_generator.proofs.Changes.{base-is-read}
use Rattle.row_generator.proofs.laws.base_files_are_read.Goals as goal

pub returns : goal.returns
returns c = base-is-read c.printed_ids_are_read.ensures c.printed_amounts_are_read.ensures.read
