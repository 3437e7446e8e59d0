use Rattle.std.proofs.Common.{◌∙◌, sym}
use Rattle.qc_session.proofs.Packed.{quiet-all, quiet-read}
use Rattle.qc_session.proofs.quiet.run_silently.Goals as goal

pub returns-then-is_empty : goal.returns-then-is_empty
returns-then-is_empty g c
    = record {
      by = quiet-all (g.F.Files.told c.args.files.now) _ c.take_lines.new.session.skipped.items _ _
          (rw c.take_lines.new.session.skipped.ok.0 at (sym c.is_empty.ensures ∙ c.if-is_empty.true)) c.in-Ok.ensures.ends.by;
    }

pub returns-then-is_empty-2 : goal.returns-then-is_empty-2
returns-then-is_empty-2 g c =
    let h = rw c.in-Err-Read.field-0-is at c.in-Err-Read.ensures.ends.by in
    record {
      by = (
        h.0,
        quiet-read _ (g.F.Files.told c.args.files.now) _ _ c.take_lines.new.session.skipped.items _
            (rw c.take_lines.new.session.skipped.ok.0 at (sym c.is_empty-in-Err-Read.ensures ∙ c.if-is_empty-2.true)) h.1,
      );
    }
