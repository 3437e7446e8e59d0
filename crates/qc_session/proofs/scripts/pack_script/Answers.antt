use Rattle.std.proofs.Common.{◌∙◌, ap, refl}
use Rattle.text_lines.specs.Lines.{without_mark}
use Rattle.warehouse.specs.State.{Contents}
use Rattle.qc_session.proofs.BareScripts.{bare-short}
use Rattle.qc_session.proofs.PackEnds.{pack-led, pack-memory, pack-stopped}
use Rattle.qc_session.proofs.scripts.pack_script.Goals as goal

pub run_silently-requires : goal.run_silently-requires
run_silently-requires g c = c.in-Ok.ensures.ready (bare-short c.args.loaded.script.items _
    (c.trim_byte_order_mark-script.ensures ∙ ap without_mark c.deref.ensures.value) c.args.loaded.short)

pub returns-in_default-clause-ends : goal.returns-in_default-clause-ends
returns-in_default-clause-ends g c = pack-memory refl c.fail.ensures.status c.fail.ensures.skipped c.fail.ensures.said

pub returns-in-Ok-run_silently-clause-ends : goal.returns-in-Ok-run_silently-clause-ends
returns-in-Ok-run_silently-clause-ends g c =
    pack-led _ _ _ _ (c.trim_byte_order_mark-script.ensures ∙ ap without_mark c.deref.ensures.value)
    c.in-Ok.ensures.state (ap (λ (h : Contents). h.state) c.finish.ensures) c.in-Ok-run_silently.ensures.by
    c.pack_finished.ensures.ends

pub returns-clause-ends : goal.returns-clause-ends
returns-clause-ends g c =
    pack-stopped c.in-Err.stop _ _ (c.trim_byte_order_mark-script.ensures ∙ ap without_mark c.deref.ensures.value)
    c.in-Ok.ensures.state refl c.pack_stopped.ensures.skipped c.in-Err.ensures.by c.pack_stopped.ensures.ends
