use Rattle.std.proofs.Common.{◌≡◌, ap, arith, length, sym}
use Rattle.batch_delete.proofs.Growing.{below_any, below_more, more_steps, same_steps}
use Rattle.batch_delete.proofs.generalizing.collect.Goals as goal
use Rattle.batch_delete.proofs.generalizing.collect.Goals.{in-Any, in-Is+in_ok-add_children-in-Is}

pub dims-preserved : goal.dims-preserved
dims-preserved g c = elim c.match-get.branch [
  | in-Any w ↦
      let a = c.args.arena.now in
      let items = ap (λ l. l.items) w.list-is in
      let long = ap (λ l. length l.items) w.list-is in
      record {
        below = rw items (below_any a.width a.now c.requires.tree.0 c.requires.tree.1 c.args.tuple.now c.dims.dim c.dims.list.items
            (sym w.in-Any.ensures.value) c.dims.invariant.below);
        steps = same_steps _ _ _ c.dims.dim _ _ w.steps-is long c.dims.invariant.steps;
      }
  | in-Is+in_ok-add_children-in-Is w ↦
      let a = c.args.arena.now in
      let items = ap (λ l. l.items) w.list-is in
      let long = ap (λ l. length l.items) w.list-is in
      let grown = w.in_ok-add_children-in-Is.ensures.grown in
      let ends = c.dims-dim-end.ensures.value in
      let wide = c.requires.long in
      record {
        below = rw items (below_more a.width a.now c.requires.tree.0 c.requires.tree.1 c.args.tuple.now c.dims.dim w.in-Is.code
            c.dims.list.items _ (omega arith) (sym w.in-Is.ensures.value) (omega arith) c.dims.invariant.below grown);
        steps = more_steps _ _ _ _ c.dims.dim (length c.dims.list.items) _ _ w.steps-is long grown.longer
            c.dims.invariant.steps w.add_children.ensures.steps;
      }
]

pub returns-clause-below : goal.returns-clause-below
returns-clause-below g c =
    let ends = c.dims-dim-end.ensures.value in
    let past = c.dims-test.false in
    let at = c.dims.auto.dim-end in
    let is : c.dims.dim ≡ length c.args.tuple.now = omega arith in
    rw (← is) c.dims.invariant.below
