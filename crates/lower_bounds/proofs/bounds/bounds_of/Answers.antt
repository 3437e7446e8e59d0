use Rattle.std.proofs.Common.{◌≡◌, ◌^◌, ◌++◌, map, filter, length, ◌∙◌, ap, ap₂, arith}
use Rattle.std.specs.List.{range_with_len}
use Rattle.std.proofs.lemmas.Nat.{one_shl}
use Rattle.cells_below.specs.Closed.{bounds}
use Rattle.cells_below.specs.Numbers.{cell_of_number}
use Rattle.cells_below.proofs.CallerLemmas.{bounds_are, cells_more, kept_same, one_more}
use Rattle.lower_bounds.proofs.bounds.bounds_of.Goals as goal

pub numbers-preserved : goal.numbers-preserved
numbers-preserved g c = record {
  room = omega (arith, c.numbers.invariant.room, c.bounds_at-keep.ensures.room);
  way = c.bounds_at-keep.ensures.way;
  below = c.bounds_at-keep.ensures.below;
  above = c.bounds_at-keep.ensures.above;
  cells = λ source h. let u = c.args.upper.now.cell.now in
      c.in_ok-push_if.ensures
      ∙ ap₂ (λ cells more. cells ++ more) (c.numbers.invariant.cells source h)
      (kept_same c.bounds_at-keep.result (bounds source u c.numbers.m) c.bounds_at-keep.new.search.cell
      (cell_of_number u c.numbers.m) (c.bounds_at-keep.ensures.value source h) c.bounds_at-keep.ensures.cell)
      ∙ cells_more u (bounds source u) c.numbers.m;
  few = omega (
    arith,
    ap length c.in_ok-push_if.ensures,
    one_more c.bounds_at-keep.result c.bounds_at-keep.new.search.cell c.numbers.cells,
  );
  steps = omega (arith, c.numbers.invariant.steps, c.bounds_at-keep.ensures.steps);
  needed = c.numbers.invariant.needed;
}

pub returns-clause-bounds : goal.returns-clause-bounds
returns-clause-bounds g c = λ source h.
    let upper = c.args.upper.now in
    let u = upper.cell.now in
    let end : c.numbers.m ≡ 2 ^ upper.values = omega (arith, one_shl upper.values 32 (omega arith)) in
    c.numbers.invariant.cells source h
    ∙ ap (λ n. map (cell_of_number u) (filter (bounds source u) (range_with_len 0 n))) (end
    ∙ ap (λ d. 2 ^ d) upper.counted)
    ∙ bounds_are source u _ h.wide upper.long
