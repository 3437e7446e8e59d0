use Rattle.reply_text.proofs.Names.{short-dim}
use Rattle.reply_text.proofs.refusals.file_refusal.Goals as goal

pub name-requires-clause-name : goal.name-requires-clause-name
name-requires-clause-name c
    = rw c.dim_name.ensures
    (short-dim c.args.schema.now c.in-ValuesFull.dim c.requires.layout (rw c.in-ValuesFull.is at c.requires.dim))
