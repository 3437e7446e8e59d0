use Rattle.std.proofs.Common.{◌∙◌, sym, true≢false}
use Rattle.qc_session.proofs.FileWords.{third}
use Rattle.qc_session.proofs.lines.names_file.Goals.{then-starts_with, else-starts_with}
use Rattle.qc_session.proofs.lines.names_file.Goals as goal

pub returns-else-starts_with-2 : goal.returns-else-starts_with-2
returns-else-starts_with-2 c = elim c.if-starts_with.branch [
  | then-starts_with w ↦ absurd (true≢false (sym w.if-starts_with.true ∙ sym w.value-is ∙ c.if-starts_with-2.false))
  | else-starts_with w ↦ c.starts_with-else-starts_with-2.ensures.value
      ∙ third c.args.line.now (sym c.starts_with.ensures.value ∙ w.if-starts_with.false)
      (sym w.starts_with-else-starts_with.ensures.value ∙ sym w.value-is ∙ c.if-starts_with-2.false)
]
