use Rattle.std.proofs.Common.{◌≡◌, ◌≤◌, ◌+◌, length}
use Rattle.qc_session.specs.Lines.{lines_of}
use Rattle.qc_session.proofs.session.count_lines.Given as goal

abbrev pub invariant-lines : goal.invariant-lines
invariant-lines l = (l.count + length (lines_of l.rest) ≡ length (lines_of l.text))
    × (l.count + length l.rest ≤ length l.text)

abbrev pub decreases-lines : goal.decreases-lines
decreases-lines l = length l.rest
