use Rattle.std.proofs.Common.{sym}
use Rattle.qc_arena.proofs.Listed.{list_others}
use Rattle.qc_arena.proofs.record_store.put_at.Goals as goal

pub returns-in-Some-clause-others : goal.returns-in-Some-clause-others
returns-in-Some-clause-others c =
    let p = c.put.ensures in
    list_others c.args.store.now.records c.args.store.now.lists c.put.new.self c.args.store.now.listed c.args.node c.in-Some.place
    c.index.result.now c.index.ensures (sym c.in-Some.ensures) p.others p.there p.len p.capacity
