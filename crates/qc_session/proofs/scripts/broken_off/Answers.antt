use Rattle.qc_session.proofs.scripts.broken_off.Goals as goal

pub returns-in-Read-clause-ends : goal.returns-in-Read-clause-ends
returns-in-Read-clause-ends g c
    = rw c.in-Read.is (c.stopped.ensures.status, rw c.as_str.ensures.value at c.report.ensures.said)

pub returns-in-Write-clause-ends : goal.returns-in-Write-clause-ends
returns-in-Write-clause-ends g c = rw c.in-Write.is (c.stopped-in-Write.ensures.status, c.report-in-Write.ensures.said)
