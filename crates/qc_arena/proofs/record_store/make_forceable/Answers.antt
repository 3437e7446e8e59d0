use Rattle.std.proofs.Common.{None, sym}
use Rattle.qc_arena.proofs.Listed.{own_listed, same_place}
use Rattle.qc_arena.proofs.record_store.make_forceable.Goals as goal

pub returns-clause-same : goal.returns-clause-same
returns-clause-same c =
    own_listed c.args.store.now.records c.store_list.new.store.records c.args.store.now.lists c.store_list.new.store.lists c.args.node
    c.index-2.result.now c.index-2.ensures
    (same_place c.args.store.now.records c.args.node c.index.result.now c.index-2.result.now c.index.ensures c.index-2.ensures
    None (sym (c.can_force.ensures.only c.if-can_force.false))) c.own_edges-list.result c.own_edges-list.ensures
    c.store_list.ensures.here c.store_list.ensures.others
