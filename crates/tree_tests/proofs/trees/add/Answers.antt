use Rattle.std.proofs.Common.{◌∙◌, ap}
use Rattle.qc_arena.specs.Map.{Arena}
use Rattle.tree_tests.proofs.Added.{one_more, source_is}
use Rattle.tree_tests.proofs.trees.add.Goals as goal

pub returns-in-Ok-clause-rows : goal.returns-in-Ok-clause-rows
returns-in-Ok-clause-rows g c =
    let now = λ (a : Arena). a.now in
    let width = λ (a : Arena). a.width in
    one_more c.args.place c.args.tuple.now _ c.args.arena.now c.begin.new.self c.insert_row.new.arena c.requires.rows
    c.requires.no_any (ap now c.begin.ensures) (ap width c.begin.ensures) c.in-Ok.ensures.tree c.commit.new.self
    (ap now c.commit.ensures.value) (ap width c.commit.ensures.value ∙ ap width c.insert_row.ensures.frame)

pub insert_row-requires-clause-tree : goal.insert_row-requires-clause-tree
insert_row-requires-clause-tree g c
    = source_is c.args.place c.args.arena.now c.begin.new.self c.requires.rows c.requires.place
    (ap (λ (a : Arena). a.now) c.begin.ensures) (ap (λ (a : Arena). a.width) c.begin.ensures)
