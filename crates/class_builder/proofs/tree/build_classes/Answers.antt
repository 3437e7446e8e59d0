use Rattle.std.proofs.Common.{◌≡◌, ◌<◌, ◌≤◌, ◌∙◌, arith, length, nat_cmp, subst, sym}
use Rattle.std.proofs.lemmas.Result.{on_ok_weaker}
use Rattle.cube_defs.specs.Tree.{nodes}
use Rattle.base_table.specs.Places.{rows_of}
use Rattle.class_builder.proofs.Whole.{none_built, some_left, tuples_back, tuples_there}
use Rattle.class_builder.proofs.tree.build_classes.Goals as goal

pub returns-then-count-eq0-clause-tree : goal.returns-then-count-eq0-clause-tree
returns-then-count-eq0-clause-tree g c =
    let none : length (rows_of c.args.table.now) ≡ 0 = omega (arith, c.if-count-eq0.true, c.count.ensures.value) in
    none_built c.args.table.now.measures (rows_of c.args.table.now) c.args.arena.now.now none c.requires.empty

pub build_sorted-built-requires-clause-some : goal.build_sorted-built-requires-clause-some
build_sorted-built-requires-clause-some g c =
    let some : 0 < length (rows_of c.args.table.now) = omega (arith, c.if-count-eq0.false, c.count.ensures.value) in
    some_left (rows_of c.args.table.now) (rows_of c.in-Ok.rows) c.in-Ok.ensures.rows some

pub build_sorted-built-requires-clause-fresh : goal.build_sorted-built-requires-clause-fresh
build_sorted-built-requires-clause-fresh g c = record {
  opened = c.requires.opened;
  empty = c.requires.empty;
  width = c.requires.width ∙ sym c.in-Ok.ensures.dims;
}

pub returns-clause-fits : goal.returns-clause-fits
returns-clause-fits g c =
    let rows = rows_of c.args.table.now in
    let more = rows_of c.in-Ok.rows in
    let same : nodes nat_cmp rows ≡ nodes nat_cmp more
    = c.lists_of_cells_in_order.ensures.nodes rows more (tuples_there rows more c.in-Ok.ensures.rows)
    (tuples_back rows more c.in-Ok.ensures.rows) in
    on_ok_weaker c.build_sorted-built.result
    (λ (fits : length (nodes nat_cmp more) ≤ c.args.arena.now.max).
    subst (λ cells. length cells ≤ c.args.arena.now.max) (sym same) fits) c.build_sorted-built.ensures.fits

pub returns-clause-full : goal.returns-clause-full
returns-clause-full g c = λ e.
    let rows = rows_of c.args.table.now in
    let more = rows_of c.in-Ok.rows in
    let same : nodes nat_cmp rows ≡ nodes nat_cmp more
    = c.lists_of_cells_in_order.ensures.nodes rows more (tuples_there rows more c.in-Ok.ensures.rows)
    (tuples_back rows more c.in-Ok.ensures.rows) in
    subst (λ cells. c.args.arena.now.max < length cells) (sym same) (c.build_sorted-built.ensures.full e)
