use Rattle.std.proofs.Common.{◌≡◌, ◌+◌, ◌*◌, ◌^◌, ◌≤◌, Some, length, subst, sym, arith}
use Rattle.cube_defs.specs.Tree.{cell_at}
use Rattle.cube_laws.specs.Parts.{value_count}
use Rattle.qc_arena.specs.RecordReaders.{record_at}
use Rattle.tree_search.proofs.CallerLemmas.{cell_of}
use Rattle.lower_bounds.proofs.Counted.{few_values, steps_of_bounds}
use Rattle.lower_bounds.proofs.bounds.lower_bounds.Goals as goal

pub returns-clause-steps : goal.returns-clause-steps
returns-clause-steps g c =
    let n = g.T.Nodes.width c.args.tree.now in
    let tree = g.T.Nodes.tree c.args.tree.now in
    let u = c.upper_into.new.out in
    let at : cell_at tree c.args.node.0 ≡ Some u
    = subst (λ t. cell_at t c.args.node.0 ≡ Some u) c.of-tree.ensures.tree c.upper_into.ensures.cell in
    let same : (record_at tree c.args.node.0).cell ≡ u = cell_of tree c.args.node.0 u at in
    let wide : length u ≡ n
    = omega (arith, c.upper_into.ensures.dims, c.any-u.ensures.dims, c.dims.ensures.value, c.of-tree.ensures.width) in
    let few : value_count u ≤ n = omega (arith, few_values u, wide) in
    let below : c.bounds_of.new.steps ≤ c.upper_into.new.steps + (value_count u + 2 ^ value_count u) * (2 * n + 2)
    = rw (c.count_values.ensures.value, wide) at c.bounds_of.ensures.steps in
    subst (λ cell. c.bounds_of.new.steps ≤ c.args.steps.now + 16 * (n + 1) ^ 2 * 2 ^ value_count cell) (sym same)
    (omega (
      arith,
      below,
      c.upper_into.ensures.steps,
      c.upper_into.ensures.dims,
      wide,
      steps_of_bounds n (value_count u) few,
    ))
