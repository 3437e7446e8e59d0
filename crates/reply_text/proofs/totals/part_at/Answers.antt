use Rattle.std.proofs.Common.{arith}
use Rattle.reply_text.proofs.Records.{part-there}
use Rattle.reply_text.proofs.totals.part_at.Goals as goal

pub returns-clause-there : goal.returns-clause-there
returns-clause-there c = part-there c.args.agg.now c.args.measure c.requires (omega arith)
