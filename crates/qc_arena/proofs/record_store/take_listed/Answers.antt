use Rattle.std.proofs.Common.{◌∙◌}
use Rattle.qc_arena.proofs.Listed.{taken_others}
use Rattle.qc_arena.proofs.record_store.take_listed.Goals as goal

pub returns-then-has-eq0-clause-others : goal.returns-then-has-eq0-clause-others
returns-then-has-eq0-clause-others c q n =
    let t = c.take-had.ensures in
    c.drop_list.ensures.others q n
    ∙ taken_others c.args.store.now.records c.args.store.now.lists c.take-had.new.self c.args.store.now.listed c.args.node c.args.place
    c.requires.node c.requires.place t.taken.others t.there t.len t.capacity q n

pub returns-else-has-eq0-clause-others : goal.returns-else-has-eq0-clause-others
returns-else-has-eq0-clause-others c =
    let t = c.take-had.ensures in
    taken_others c.args.store.now.records c.args.store.now.lists c.take-had.new.self c.args.store.now.listed c.args.node c.args.place
    c.requires.node c.requires.place t.taken.others t.there t.len t.capacity
