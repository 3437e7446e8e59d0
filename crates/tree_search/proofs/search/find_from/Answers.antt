use Rattle.std.proofs.Common.{sym, ◌∙◌, arith}
use Rattle.cell_core.specs.Entry.{value_in}
use Rattle.tree_search.proofs.Walked.{rest_stops, rest_goes, rest_end, next_there}
use Rattle.tree_search.proofs.search.find_from.Goals as goal

pub returns-in_err-at-clause-walk : goal.returns-in_err-at-clause-walk
returns-in_err-at-clause-walk g c =
    rw c.from_residual.ensures
    (sym (c.dims.invariant.walk
    ∙ rest_stops _ c.args.cell.now c.dims.at.0 c.dims.i (value_in c.get.result) (omega arith) c.dims.invariant.there
    c.get.ensures.value (sym c.in_err-at.ensures.value)))

pub dims-preserved : goal.dims-preserved
dims-preserved g c = record {
  walk = c.dims.invariant.walk
      ∙ rest_goes _ c.args.cell.now c.dims.at.0 c.dims.i (value_in c.get.result) c.in_ok-at.at.0
      (omega arith) c.dims.invariant.there c.get.ensures.value (sym c.in_ok-at.ensures.value);
  there = next_there _ _ c.requires.tree.0 c.requires.tree.1 c.dims.at.0 c.dims.i
      (value_in c.get.result) c.in_ok-at.at.0 c.dims.invariant.there (sym c.in_ok-at.ensures.value);
  steps = omega arith;
}

pub returns-clause-walk : goal.returns-clause-walk
returns-clause-walk g c = sym (c.dims.invariant.walk ∙ rest_end _ c.args.cell.now c.dims.at.0 c.dims.i (omega arith))
