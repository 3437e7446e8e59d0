use Rattle.std.proofs.Common.{arith}
use Rattle.std.proofs.lemmas.List.{take_rest}
use Rattle.text_lines.proofs.Splits.{line-at, line-whole}
use Rattle.text_lines.proofs.lines.split_line.Goals as goal

pub returns-then-b-eq10-clause-lines : goal.returns-then-b-eq10-clause-lines
returns-then-b-eq10-clause-lines c
    = rw take_rest (line-at c.args.text.now c.loop-i.i (omega arith) (omega arith) c.loop-i.invariant)

pub returns-clause-lines : goal.returns-clause-lines
returns-clause-lines c = line-whole c.args.text.now c.requires (λ k h. c.loop-i.invariant k (omega arith))
