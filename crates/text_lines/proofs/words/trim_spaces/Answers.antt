use Rattle.std.proofs.Common.{arith}
use Rattle.std.proofs.lemmas.List.{take_rest}
use Rattle.text_lines.proofs.WordSplits.{words-none, words-skip}
use Rattle.text_lines.proofs.words.trim_spaces.Goals as goal

pub returns-then-b-ne32-clause-words : goal.returns-then-b-ne32-clause-words
returns-then-b-ne32-clause-words c
    = rw take_rest (words-skip c.args.line.now c.loop-i.i (omega arith) c.loop-i.invariant)

pub returns-clause-words : goal.returns-clause-words
returns-clause-words c = words-none c.args.line.now (λ k h. c.loop-i.invariant k (omega arith))
