use Rattle.std.proofs.Common.{refl}
use Rattle.qc_io.proofs.Lookups.{adding-found, adding-pushed}
use Rattle.qc_io.proofs.file_store.put.Goals as goal

pub returns-in-Some-clause-ok : goal.returns-in-Some-clause-ok
returns-in-Some-clause-ok c =
    rw (← c.in_ok-bytes.ensures.items)
    (adding-found c.args.files.now.items c.in-Some.i c.index_mut.result.now _ c.args.name.now
    (rw c.deref.ensures.value at c.in-Some.ensures) c.index_mut.ensures.value refl)

pub returns-in_ok-push-in-None-clause-ok : goal.returns-in_ok-push-in-None-clause-ok
returns-in_ok-push-in-None-clause-ok c =
    rw (c.in_ok-push-in-None.ensures.items, ← c.in_ok-bytes.ensures.items, ← c.in_ok-name-in-None.ensures.ok)
    (adding-pushed c.args.files.now.items _
    (rw (c.in_ok-name-in-None.ensures.ok, ← c.deref.ensures.value) c.in-None.ensures))
