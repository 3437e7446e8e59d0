use Rattle.std.proofs.Common.{◌≡◌, ◌<◌, ◌+◌, ◌∙◌, ap, arith, length, sym, false}
use Rattle.base_table.specs.Places.{has_id, rows_of}
use Rattle.csv_load.specs.Batch.{change_at, is_deletion}
use Rattle.warehouse.specs.Steps.{is_there}
use Rattle.warehouse.proofs.Changes.{insertion-there, none-there, number-here, number-none}
use Rattle.warehouse.proofs.checks.first_present.Goals as goal

pub returns-then-count-eq0 : goal.returns-then-count-eq0
returns-then-count-eq0 c =
    let rows = rows_of c.args.table.now in
    let empty : length rows ≡ 0 = omega (arith, c.if-count-eq0.true, c.count.ensures.value) in
    sym (number-none (is_there rows) c.args.batch.now.changes (λ j lt. none-there rows _ empty))

pub returns-then-has : goal.returns-then-has
returns-then-has c =
    let rows = rows_of c.args.table.now in
    let changes = c.args.batch.now.changes in
    let k = c.changes.before in
    let lt : k < length changes = omega (arith, c.changes-test.true, c.len-before-end.ensures.count) in
    let is : is_deletion (change_at changes (k + 1)) ≡ false
    = grind (arith, c.is_delete.ensures, c.if-not-is_delete.true) in
    sym (number-here (is_there rows) changes k lt c.changes.invariant
    (insertion-there rows (change_at changes (k + 1)) is ∙ sym (c.has.ensures ∙ ap (has_id rows) c.id.ensures)
    ∙ c.if-has.true))

pub returns : goal.returns
returns c =
    let changes = c.args.batch.now.changes in
    sym (number-none (is_there (rows_of c.args.table.now)) changes
    (λ j lt. c.changes.invariant j (omega (arith, lt, c.changes-test.false, c.len-before-end.ensures.count))))
