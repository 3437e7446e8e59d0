use Rattle.std.proofs.Common.{map, refl}
use Rattle.qc_io.specs.StoreEntries.{entry_of}
use Rattle.qc_io.proofs.Lookups.{keeps}
use Rattle.qc_io.proofs.file_store.FileStore.add.Goals as goal

pub invariant_of-self-2 : goal.invariant_of-self-2
invariant_of-self-2 c =
    let s = c.self.inside in
    let k = keeps (map entry_of s.files.items) s.opened s.place c.args.name.now c.args.bytes.now c.self.invariant.1
    (rw (← c.self.view_is) at c.requires) in
    (c.self.invariant.0, rw c.in_ok-put.ensures.ok k.placed)

pub returns-clause-ok : goal.returns-clause-ok
returns-clause-ok c =
    let s = c.self.inside in
    let k = keeps (map entry_of s.files.items) s.opened s.place c.args.name.now c.args.bytes.now c.self.invariant.1
    (rw (← c.self.view_is) at c.requires) in
    rw (← c.self.view_is, c.in_ok-put.ensures.ok, k.open_name, k.current) refl
