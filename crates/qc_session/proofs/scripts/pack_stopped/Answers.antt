use Rattle.qc_session.proofs.scripts.pack_stopped.Goals as goal

pub returns-in-Read-clause-ends : goal.returns-in-Read-clause-ends
returns-in-Read-clause-ends g c
    = rw c.in-Read.is (c.fail.ensures.status, rw c.as_str.ensures.value at c.fail.ensures.said)

pub returns-in-Memory-clause-ends : goal.returns-in-Memory-clause-ends
returns-in-Memory-clause-ends g c = rw c.in-Memory.is (c.fail-in-Memory.ensures.status, c.fail-in-Memory.ensures.said)
