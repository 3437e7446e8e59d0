use Rattle.std.proofs.Common.{ap}
use Rattle.qc_arena.specs.Map.{Arena}
use Rattle.warehouse.proofs.TreeInsertions.{full-at, none-came, row-apart, row-came, row-costs, row-full, row-there}
use Rattle.warehouse.proofs.TreeInsertions.{source-before}
use Rattle.warehouse.proofs.Touching.{touched-place}
use Rattle.warehouse.proofs.row_insertion.insert_in_tree_at.Goals as goal

pub returns-in_default-clause-tree : goal.returns-in_default-clause-tree
returns-in_default-clause-tree g c
    = none-came c.args.table.now c.args.tree.now c.args.place c.requires.tree c.requires.place
    (c.at.ensures.none c.in_default.is)

pub insert_row-requires-clause-no_any : goal.insert_row-requires-clause-no_any
insert_row-requires-clause-no_any g c =
    full-at c.args.table.now c.args.place c.tuple-tuple.result c.amounts.result.now
    (row-there c.args.table.now c.args.place c.in-Some.row.0 c.tuple-tuple.result c.amounts.result.now
    c.in-Some.ensures.some.0 c.in-Some.ensures.some.1 c.tuple-tuple.ensures.value c.amounts.ensures.value)

pub insert_row-requires-clause-tree : goal.insert_row-requires-clause-tree
insert_row-requires-clause-tree g c =
    source-before c.args.table.now c.args.tree.now c.args.place c.tuple-tuple.result c.amounts.result.now
    c.recall_invariant.ensures c.requires.open.width c.requires.tree c.requires.place
    (row-there c.args.table.now c.args.place c.in-Some.row.0 c.tuple-tuple.result c.amounts.result.now
    c.in-Some.ensures.some.0 c.in-Some.ensures.some.1 c.tuple-tuple.ensures.value c.amounts.ensures.value)
    c.amounts.ensures.measures

pub returns-in-Ok-clause-tree : goal.returns-in-Ok-clause-tree
returns-in-Ok-clause-tree g c =
    row-came c.args.table.now c.args.tree.now c.args.place c.tuple-tuple.result c.amounts.result.now
    c.recall_invariant.ensures c.requires.open.width c.requires.tree c.requires.place
    (row-there c.args.table.now c.args.place c.in-Some.row.0 c.tuple-tuple.result c.amounts.result.now
    c.in-Some.ensures.some.0 c.in-Some.ensures.some.1 c.tuple-tuple.ensures.value c.amounts.ensures.value)
    c.amounts.ensures.measures c.insert_row.new.arena (ap (λ (a : Arena). a.max) c.insert_row.ensures.frame)
    c.in-Ok.ensures.tree c.in-Ok.ensures.fits

pub returns-in-Err-clause-full : goal.returns-in-Err-clause-full
returns-in-Err-clause-full g c = λ e.
    row-full c.args.table.now c.args.tree.now c.args.place c.tuple-tuple.result c.amounts.result.now
    c.recall_invariant.ensures c.requires.open.width c.requires.tree c.requires.place
    (row-there c.args.table.now c.args.place c.in-Some.row.0 c.tuple-tuple.result c.amounts.result.now
    c.in-Some.ensures.some.0 c.in-Some.ensures.some.1 c.tuple-tuple.ensures.value c.amounts.ensures.value)
    c.amounts.ensures.measures (c.in-Err.ensures.full e)

pub returns-in-Ok-clause-apart : goal.returns-in-Ok-clause-apart
returns-in-Ok-clause-apart g c =
    row-apart c.args.table.now c.args.place c.tuple-tuple.result c.amounts.result.now
    (row-there c.args.table.now c.args.place c.in-Some.row.0 c.tuple-tuple.result c.amounts.result.now
    c.in-Some.ensures.some.0 c.in-Some.ensures.some.1 c.tuple-tuple.ensures.value c.amounts.ensures.value)
    c.args.tree.now.now c.insert_row.new.arena.now c.insert_row.ensures.apart

pub returns-in-Err-clause-apart : goal.returns-in-Err-clause-apart
returns-in-Err-clause-apart g c =
    row-apart c.args.table.now c.args.place c.tuple-tuple.result c.amounts.result.now
    (row-there c.args.table.now c.args.place c.in-Some.row.0 c.tuple-tuple.result c.amounts.result.now
    c.in-Some.ensures.some.0 c.in-Some.ensures.some.1 c.tuple-tuple.ensures.value c.amounts.ensures.value)
    c.args.tree.now.now c.insert_row.new.arena.now c.insert_row.ensures.apart

pub returns-in-Ok-clause-steps : goal.returns-in-Ok-clause-steps
returns-in-Ok-clause-steps g c =
    row-costs c.args.table.now c.args.tree.now c.args.place c.tuple-tuple.result c.amounts.result.now
    c.recall_invariant.ensures c.requires.open.width c.requires.tree c.requires.place
    (row-there c.args.table.now c.args.place c.in-Some.row.0 c.tuple-tuple.result c.amounts.result.now
    c.in-Some.ensures.some.0 c.in-Some.ensures.some.1 c.tuple-tuple.ensures.value c.amounts.ensures.value)
    c.amounts.ensures.measures c.args.steps.now c.insert_row.new.steps c.in-Ok.ensures.steps c.tuple-tuple.ensures.dims

pub returns-in-Ok-clause-touches : goal.returns-in-Ok-clause-touches
returns-in-Ok-clause-touches g c =
    touched-place c.args.table.now c.args.place c.tuple-tuple.result c.amounts.result.now
    (row-there c.args.table.now c.args.place c.in-Some.row.0 c.tuple-tuple.result c.amounts.result.now
    c.in-Some.ensures.some.0 c.in-Some.ensures.some.1 c.tuple-tuple.ensures.value c.amounts.ensures.value)
    c.args.tree.now c.insert_row.new.arena c.insert_row.ensures.touched

pub returns-in-Err-clause-touches : goal.returns-in-Err-clause-touches
returns-in-Err-clause-touches g c =
    touched-place c.args.table.now c.args.place c.tuple-tuple.result c.amounts.result.now
    (row-there c.args.table.now c.args.place c.in-Some.row.0 c.tuple-tuple.result c.amounts.result.now
    c.in-Some.ensures.some.0 c.in-Some.ensures.some.1 c.tuple-tuple.ensures.value c.amounts.ensures.value)
    c.args.tree.now c.insert_row.new.arena c.insert_row.ensures.touched
