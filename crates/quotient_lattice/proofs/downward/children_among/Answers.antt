use Rattle.std.proofs.Common.{[], ◌∷◌, ◌++◌, cond, ◌≡◌, ◌↔◌, ◌+◌, ◌*◌, ◌<◌, ◌≤◌, get_or, length, map, nat_eq, refl, sym, ap, subst, ◌∙◌}
use Rattle.std.proofs.Common.{arith}
use Rattle.std.specs.List.{IsDistinct}
use Rattle.cube_laws.specs.Lists.{Among}
use Rattle.cube_laws.specs.Parts.{value_count}
use Rattle.cube_laws.proofs.CallerLemmas.{got}
use Rattle.tree_laws.proofs.CallerLemmas.{some_same}
use Rattle.qc_arena.specs.RecordReaders.{record_at}
use Rattle.quotient_lattice.specs.NodeCells.{AreAt, IsPicked, number_of}
use Rattle.quotient_lattice.proofs.ChildNodes.{none_picked, once_none}
use Rattle.quotient_lattice.proofs.PickedNodes.{first_next, once_last, picked_early, picked_last, same_next}
use Rattle.quotient_lattice.proofs.Turns.{steps_all}
use Rattle.quotient_lattice.proofs.downward.children_among.Goals as goal
use Rattle.quotient_lattice.proofs.downward.children_among.Goals.{then-is_last+in-Ok, else-is_last}

pub led-init : goal.led-init
led-init g c = record {
  more = λ l. refl;
  few = omega arith;
  each = none_picked c.args.tree.now.tree c.args.values c.args.led.now.items c.new-found.result.items
      c.new-found.ensures.items;
  once = once_none c.new-found.result.items c.new-found.ensures.items;
  cells = λ k d l. absurd (omega (arith, l, ap length c.new-found.ensures.items));
  steps = omega arith;
}

pub led-preserved : goal.led-preserved
led-preserved g c =
    let tree = c.args.tree.now.tree in
    let xs = c.args.led.now.items in
    let i = c.led.i in
    let ps = map number_of c.led.found.items in
    let inv = c.led.invariant in
    let within : i < length xs = omega (arith, c.led-test.true, c.len-i-end.ensures) in
    elim c.if-is_last.branch [
      | then-is_last+in-Ok w ↦
          let last = sym w.if-is_last.ensures in
          let here = inv.more within in
          let at : w.index.result.now ≡ get_or xs i 0 = w.index.ensures
          ∙ some_same (sym (got xs i w.index.result.now within) ∙ got xs i 0 within) in
          let pushed = ap (λ v. map number_of v.items) w.found-is ∙ w.in-Ok.ensures.numbers
          ∙ ap (λ z. ps ++ cond (nat_eq ((c.led.more + 1) + c.args.values) (value_count (record_at tree z).cell))
          (z ∷ []) []) at in
          record {
            more = λ l. w.more-is ∙ first_next tree c.args.values xs c.requires.sorted i within last l;
            few = omega (arith, w.more-is);
            each = λ k. subst (λ ys. Among k ys ↔ IsPicked tree c.args.values xs (i + 1) k) (sym pushed)
                (picked_last tree c.args.values xs c.requires.sorted i within last c.led.more here ps inv.each k);
            once = subst (IsDistinct nat_eq) (sym pushed)
                (once_last tree c.args.values xs c.requires.sorted i within last c.led.more here ps inv.each inv.once);
            cells = subst (λ v. AreAt tree v.items) (sym w.found-is) (w.in-Ok.ensures.cells inv.cells);
            steps = omega (arith, w.steps-is, w.in-Ok.ensures.steps, inv.steps);
          }
      | else-is_last w ↦
          let early = sym w.if-is_last.ensures in
          let here = inv.more within in
          record {
            more = λ l. w.more-is ∙ same_next tree c.args.values xs c.requires.sorted i within early c.led.more here;
            few = omega (arith, w.more-is, inv.few);
            each = λ k. subst (λ v. Among k (map number_of v.items) ↔ IsPicked tree c.args.values xs (i + 1) k)
                (sym w.found-is) (picked_early tree c.args.values xs c.requires.sorted i within early ps inv.each k);
            once = subst (λ v. IsDistinct nat_eq (map number_of v.items)) (sym w.found-is) inv.once;
            cells = subst (λ v. AreAt tree v.items) (sym w.found-is) inv.cells;
            steps = omega (arith, w.steps-is, inv.steps);
          }
    ]

pub returns-in-Err-clause-steps : goal.returns-in-Err-clause-steps
returns-in-Err-clause-steps g c =
    let inv = c.led.invariant in
    let within : c.led.i + 1 ≤ length c.args.led.now.items = omega (arith, c.led-test.true, c.len-i-end.ensures) in
    let cost : c.push_child.new.steps ≤ c.args.steps.now + (c.led.i + 1) * (2 * c.args.tree.now.width + 2)
    = omega (arith, c.in-Err.ensures.steps, inv.steps) in
    steps_all (c.led.i + 1) (length c.args.led.now.items) (2 * c.args.tree.now.width + 2)
    c.push_child.new.steps c.args.steps.now within cost

pub returns-clause-steps : goal.returns-clause-steps
returns-clause-steps g c =
    let within : c.led.i ≤ length c.args.led.now.items = omega (arith, c.led.auto.i-end, c.len-i-end.ensures) in
    steps_all c.led.i (length c.args.led.now.items) (2 * c.args.tree.now.width + 2) c.led.steps
    c.args.steps.now within c.led.invariant.steps
