use Rattle.aggregates.proofs.ReadBack.{fraction_written-text}
use Rattle.aggregates.proofs.laws.printed_ratios_are_read.Goals as goal

pub returns : goal.returns
returns c = fraction_written-text
