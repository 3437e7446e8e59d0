use Rattle.std.proofs.Common.{◌≡◌, ◌≤◌, ◌+◌, length, map}
use Rattle.qc_schema.specs.Grammar.{read_lines, start}
use Rattle.text_lines.specs.Lines.{lines_of, without_cr}
use Rattle.qc_schema.specs.Progress.{progress_in}
use Rattle.qc_schema.proofs.Keeping.{Keeps}
use Rattle.qc_schema.proofs.schema.read_draft.Given as goal

abbrev pub invariant-lines : goal.invariant-lines
invariant-lines l = record {
  read : read_lines (map without_cr (lines_of l.rest)) l.line (progress_in l.reader)
      ≡ read_lines (map without_cr (lines_of l.text)) 1 start;
  keeps : Keeps (progress_in l.reader);
  small : l.line + length l.rest ≤ length l.text + 1;
}

abbrev pub decreases-lines : goal.decreases-lines
decreases-lines l = length l.rest
