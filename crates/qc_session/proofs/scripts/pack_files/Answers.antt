use Rattle.qc_session.specs.Failures.{cause_of}
use Rattle.qc_session.proofs.PackEnds.{pack-begun, pack-unbegun}
use Rattle.qc_session.proofs.scripts.pack_files.Goals as goal

pub returns-in-Ok-clause-ends : goal.returns-in-Ok-clause-ends
returns-in-Ok-clause-ends g c
    = pack-begun c.in-Ok.ensures.stay c.in-Ok.ensures.start c.in-Ok.ensures.script c.pack_script.ensures.ends

pub returns-in-Err-clause-ends : goal.returns-in-Err-clause-ends
returns-in-Err-clause-ends g c
    = pack-unbegun (cause_of c.in-Err.failure) c.in-Err.ensures.err c.fail.ensures.status c.fail.ensures.skipped
    c.fail.ensures.said
