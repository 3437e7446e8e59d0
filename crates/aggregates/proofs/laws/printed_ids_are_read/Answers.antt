use Rattle.aggregates.proofs.ReadBack.{id_in-decimal}
use Rattle.aggregates.proofs.laws.printed_ids_are_read.Goals as goal

pub returns : goal.returns
returns c = id_in-decimal
