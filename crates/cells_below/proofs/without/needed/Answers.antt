use Rattle.std.proofs.Common.{◌≡◌, ℕ, suc, ◌+◌, ◌*◌, ap, drop, length, length-drop, subst, sym, ◌∙◌, arith}
use Rattle.cell_core.specs.Entry.{value_in}
use Rattle.cube_laws.specs.Parts.{value_count}
use Rattle.tree_laws.proofs.CallerLemmas.{there}
use Rattle.tree_search.proofs.CallerLemmas.{next_there}
use Rattle.cells_below.specs.Closed.{AreNeeded}
use Rattle.cells_below.proofs.Cells.{counted_any, counted_one, no_value, values-le}
use Rattle.cells_below.proofs.NeededBits.{needed_if, none_needed}
use Rattle.cells_below.proofs.Reached.{reached_first, reached_next}
use Rattle.cells_below.proofs.without.needed.Goals as goal
use Rattle.cells_below.proofs.without.needed.Goals.{in-Is+else-left-eq0-2, in_default-entry}

pub dims-init : goal.dims-init
dims-init g c =
    let upper = c.args.upper.now in
    record {
      there = there upper.tree.now.tree c.in-Some.root.0 _ c.in-Some.ensures.some;
      reached = λ source h. reached_first _ source upper.cell.now _ h upper.long c.in-Some.root.0 c.in-Some.ensures.some;
      are = λ source h. none_needed source upper.cell.now;
      left = upper.counted;
      more = omega (arith, c.if-left-eq0.false);
      steps = omega (arith, c.in-Some.ensures.steps);
    }

pub with_needed_bit-needed-requires : goal.with_needed_bit-needed-requires
with_needed_bit-needed-requires g c =
    let after = drop c.dims.dim c.args.upper.now.cell.now in
    omega (
      arith,
      c.dims.invariant.left,
      values-le after,
      length-drop c.dims.dim c.args.upper.now.cell.now,
      c.args.upper.now.long,
      c.dims-dim-end.ensures.few,
    )

pub returns-then-left-eq0-2-clause-value : goal.returns-then-left-eq0-2-clause-value
returns-then-left-eq0-2-clause-value g c = λ source h.
    needed_if source c.args.upper.now.cell.now c.dims.dim c.dims.left c.in-Is.field-0 (omega (arith, c.args.upper.now.long))
    c.dims.invariant.left (sym c.in-Is.ensures.value) c.dims.needed _ c.closes_without-closes.result
    c.with_needed_bit-needed.ensures (c.closes_without-closes.ensures.opens source h) (c.dims.invariant.are source h)

pub dims-preserved : goal.dims-preserved
dims-preserved g c =
    let upper = c.args.upper.now in
    let rows = c.dims-dim-end.ensures.rows in
    let next : suc c.dims.dim ≡ c.dims.dim + 1 = omega arith in
    record {
      there = next_there _ _ rows.0 rows.1 c.dims.node.0 c.dims.dim (value_in c.get-entry.result) c.in-Some-step.next.0
          c.dims.invariant.there (sym c.in-Some-step.ensures.value);
      reached = λ source h. reached_next _ source upper.cell.now c.dims.node.0 c.dims.dim (omega (arith, upper.long))
          c.dims.invariant.there (c.dims.invariant.reached source h) (value_in c.get-entry.result)
          c.in-Some-step.next.0 c.get-entry.ensures.value (sym c.in-Some-step.ensures.value);
      are = λ source h. elim c.match-entry.branch [
        | in-Is+else-left-eq0-2 w ↦ subst (AreNeeded source upper.cell.now) (sym w.needed-is)
            (needed_if source upper.cell.now c.dims.dim c.dims.left w.in-Is.field-0 (omega (arith, upper.long))
            c.dims.invariant.left (sym w.in-Is.ensures.value) c.dims.needed _ w.closes_without-closes.result
            w.with_needed_bit-needed.ensures (w.closes_without-closes.ensures.opens source h)
            (c.dims.invariant.are source h))
        | in_default-entry w ↦ subst (AreNeeded source upper.cell.now) (sym w.needed-is) (c.dims.invariant.are source h)
      ];
      left = elim c.match-entry.branch [
        | in-Is+else-left-eq0-2 w ↦ w.left-is
            ∙ omega (
              arith,
              c.dims.invariant.left,
              counted_one upper.cell.now c.dims.dim (omega (arith, upper.long))
                  w.in-Is.field-0 (sym w.in-Is.ensures.value),
              ap (λ n. value_count (drop n upper.cell.now)) next,
            )
        | in_default-entry w ↦ w.left-is ∙ c.dims.invariant.left
            ∙ counted_any upper.cell.now c.dims.dim (omega (arith, upper.long))
            (sym c.get-entry.ensures.value ∙ no_value c.get-entry.result w.in_default-entry.not-Is)
            ∙ ap (λ n. value_count (drop n upper.cell.now)) next
      ];
      more = elim c.match-entry.branch [
        | in-Is+else-left-eq0-2 w ↦ omega (arith, w.left-is, w.if-left-eq0-2.false)
        | in_default-entry w ↦ omega (arith, w.left-is, c.dims.invariant.more)
      ];
      steps = elim c.match-entry.branch [
        | in-Is+else-left-eq0-2 w ↦ omega (
          arith,
          w.steps-is,
          ap (λ (n : ℕ). n * (2 * length upper.cell.now))
              (let one : c.dims.left ≡ suc c.match-entry.left
              = omega (arith, w.left-is, c.dims.invariant.more) in one),
          w.closes_without-closes.ensures.steps,
          c.dims.invariant.steps,
          c.dims.invariant.more,
          c.step.ensures.steps,
        )
        | in_default-entry w ↦ omega (
          arith,
          ap (λ (n : ℕ). n * (2 * length upper.cell.now)) w.left-is,
          w.steps-is,
          c.dims.invariant.steps,
          c.step.ensures.steps,
        )
      ];
    }
