use Rattle.std.proofs.Common.{◌≡◌, ◌∙◌, ◌+◌, suc, ap, arith, length-set, sym, Some}
use Rattle.cell_core.specs.Entry.{value_in}
use Rattle.cube_defs.specs.Cell.{with_value}
use Rattle.batch_delete.specs.Rests.{source_before}
use Rattle.batch_delete.proofs.PartialSearches.{ends, entry_after, goes_on, stops}
use Rattle.batch_delete.proofs.partial_search.find_from.Goals as goal

pub returns-in_err-node-clause-found : goal.returns-in_err-node-clause-found
returns-in_err-node-clause-found g c =
    let a = c.args.arena.now in
    let i = c.args.label.0 in
    let v = c.args.label.1 in
    let cell = with_value c.args.cell.now i v in
    let long = c.requires.1.long in
    let same = length-set c.args.cell.now i (Some v) in
    let many = c.dims-dims.ensures.value in
    let from = c.dims.invariant.from in
    let at = entry_after c.args.cell.now i v c.dims.next from (omega arith)
    ∙ ap (λ x. Some x) (sym c.get.ensures.value) in
    let on = goes_on a.width a.now (source_before g.d) c.requires.1.tree cell long c.dims.node.0 c.dims.next
    (value_in c.get.result) _ (omega arith) at c.dims.invariant.on (sym c.in_err-node.ensures.value) in
    rw c.from_residual.ensures (stops a.width a.now (source_before g.d) c.requires.1.tree cell long (suc c.dims.next) on)

pub dims-preserved : goal.dims-preserved
dims-preserved g c =
    let a = c.args.arena.now in
    let i = c.args.label.0 in
    let v = c.args.label.1 in
    let cell = with_value c.args.cell.now i v in
    let long = c.requires.1.long in
    let same = length-set c.args.cell.now i (Some v) in
    let many = c.dims-dims.ensures.value in
    let from = c.dims.invariant.from in
    let at = entry_after c.args.cell.now i v c.dims.next from (omega arith)
    ∙ ap (λ x. Some x) (sym c.get.ensures.value) in
    let on = goes_on a.width a.now (source_before g.d) c.requires.1.tree cell long c.dims.node.0 c.dims.next
    (value_in c.get.result) _ (omega arith) at c.dims.invariant.on (sym c.in_ok-node.ensures.value) in
    let next : suc c.dims.next ≡ c.dims.next + 1 = omega arith in
    let had = c.dims.invariant.steps in
    let took = c.step.ensures.steps in
    record {
      on = rw (← next) on;
      from = omega arith;
      steps = omega arith;
    }

pub returns-clause-found : goal.returns-clause-found
returns-clause-found g c =
    let a = c.args.arena.now in
    let cell = with_value c.args.cell.now c.args.label.0 c.args.label.1 in
    let long = c.requires.1.long in
    let same = length-set c.args.cell.now c.args.label.0 (Some c.args.label.1) in
    let many = c.dims-dims.ensures.value in
    let past = c.dims-test.false in
    ends a.width a.now (source_before g.d) c.requires.1.tree cell long (Some c.dims.node.0) c.dims.next
    (omega arith) c.dims.invariant.on
