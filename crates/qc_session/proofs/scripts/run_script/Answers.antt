use Rattle.std.proofs.Common.{◌∙◌, ap, arith, refl}
use Rattle.text_lines.specs.Lines.{without_mark}
use Rattle.qc_session.proofs.BareScripts.{bare-short}
use Rattle.qc_session.proofs.Costs.{within-ended}
use Rattle.qc_session.proofs.Ends.{bare-lines, script-stopped, script-unbegun, script-whole, stopped-late}
use Rattle.qc_session.proofs.scripts.run_script.Goals as goal

pub take_lines-requires : goal.take_lines-requires
take_lines-requires g c = c.in-Ok.ensures.ready (bare-short c.args.loaded.script.items _
    (c.trim_byte_order_mark-script.ensures ∙ ap without_mark c.deref.ensures.value) c.args.loaded.short)

pub returns-in_default-clause-ends : goal.returns-in_default-clause-ends
returns-in_default-clause-ends g c
    = script-unbegun refl refl c.fail.ensures.status c.fail.ensures.skipped c.fail.ensures.said

pub returns-in-Ok-take_lines-clause-ends : goal.returns-in-Ok-take_lines-clause-ends
returns-in-Ok-take_lines-clause-ends g c =
    script-whole _ _ _ _ (c.trim_byte_order_mark-script.ensures ∙ ap without_mark c.deref.ensures.value)
    c.in-Ok.ensures.state c.finished.ensures.status c.finished.ensures.skipped c.finished.ensures.end
    c.in-Ok-take_lines.ensures.ends.skipped c.in-Ok-take_lines.ensures.ends.by refl

pub returns-clause-ends : goal.returns-clause-ends
returns-clause-ends g c =
    script-stopped c.in-Err.stop _ _ _ (c.trim_byte_order_mark-script.ensures ∙ ap without_mark c.deref.ensures.value)
    c.in-Ok.ensures.state c.broken_off.ensures.skipped c.in-Err.ensures.ends.skipped c.in-Err.ensures.ends.by
    c.broken_off.ensures.ends

pub returns-in_default-clause-steps : goal.returns-in_default-clause-steps
returns-in_default-clause-steps g c = λ e. absurd (omega (arith, c.fail.ensures.status, e))

pub returns-in-Ok-take_lines-clause-steps : goal.returns-in-Ok-take_lines-clause-steps
returns-in-Ok-take_lines-clause-steps g c = λ e.
    within-ended (g.F.Files.told c.args.files.now) _ _ _ _ _ _ _ _ c.in-Ok.ensures.state c.finished.ensures.skipped
    (bare-lines c.args.loaded.script.items _ (c.trim_byte_order_mark-script.ensures ∙ ap without_mark c.deref.ensures.value))
    c.in-Ok-take_lines.ensures.steps

pub returns-clause-steps : goal.returns-clause-steps
returns-clause-steps g c = λ e. absurd (stopped-late c.in-Err.stop _ _ _ c.broken_off.ensures.ends e)
