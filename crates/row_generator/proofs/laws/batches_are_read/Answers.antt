use Rattle.row_generator.proofs.Changes.{batch-is-read}
use Rattle.row_generator.proofs.laws.batches_are_read.Goals as goal

pub returns : goal.returns
returns c = batch-is-read c.printed_ids_are_read.ensures c.printed_amounts_are_read.ensures.read
