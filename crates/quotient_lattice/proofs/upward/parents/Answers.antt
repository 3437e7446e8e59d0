use Rattle.std.proofs.Common.{◌≡◌, ◌+◌, ◌*◌, ◌^◌, ◌≤◌, length, subst, sym, ap, ◌∙◌, arith}
use Rattle.std.proofs.lemmas.Result.{IfOk-weaker}
use Rattle.cube_defs.specs.Text.{text_cmp}
use Rattle.cube_laws.specs.Parts.{value_count}
use Rattle.qc_arena.specs.RecordReaders.{record_at}
use Rattle.tree_search.proofs.CallerLemmas.{cell_of}
use Rattle.value_dict.specs.Recoded.{decoded_row_list}
use Rattle.value_dict.specs.Decoded.{decoded_cell}
use Rattle.lower_bounds.proofs.CallerLemmas.{own_closure}
use Rattle.quotient_lattice.specs.Neighbours as lattice
use Rattle.quotient_lattice.proofs.Counted.{steps_of_parents}
use Rattle.quotient_lattice.proofs.ParentNodes.{parents_are_classes, parents_told}
use Rattle.quotient_lattice.proofs.upward.parents.Goals as goal

pub returns-clause-nodes : goal.returns-clause-nodes
returns-clause-nodes g c = λ source h known.
    let tree = g.T.Nodes.tree c.args.tree.now in
    let u = c.upper_into.new.out in
    let lists = c.args.dict.now.lists in
    let at = rw c.of-tree.ensures.tree at c.upper_into.ensures.cell in
    let own = own_closure _ _ source h c.args.node.0 u at c.requires.class in
    let wide : length u ≡ g.T.Nodes.width c.args.tree.now
    = omega (arith, c.upper_into.ensures.dims, c.any-u.ensures.dims, c.dims.ensures.value, c.of-tree.ensures.width) in
    let same : (record_at tree c.args.node.0).cell ≡ u = cell_of tree c.args.node.0 u at in
    let found = rw (c.of-tree.ensures.width, c.of-tree.ensures.tree) at c.parents_of.ensures.nodes in
    IfOk-weaker c.parents_of.result _ _
    (λ nodes are. parents_told _ tree source h u nodes.items are c.args.dict.now c.dims-dims.ensures.dictionary known
    c.requires.dims own wide
    ∙ ap (λ cell. lattice.parents text_cmp (decoded_row_list lists source.rows) (decoded_cell lists cell)) (sym same))
    (found source h)

pub returns-clause-classes : goal.returns-clause-classes
returns-clause-classes g c =
    let found = rw (c.of-tree.ensures.width, c.of-tree.ensures.tree) at c.parents_of.ensures.nodes in
    IfOk-weaker c.parents_of.result _ _
    (λ nodes are. parents_are_classes _ _ c.requires.tree.0 c.requires.tree.1 c.upper_into.new.out nodes.items are)
    (found c.requires.tree.0 c.requires.tree.1)

pub returns-clause-steps : goal.returns-clause-steps
returns-clause-steps g c =
    let n = g.T.Nodes.width c.args.tree.now in
    let tree = g.T.Nodes.tree c.args.tree.now in
    let u = c.upper_into.new.out in
    let at = rw c.of-tree.ensures.tree at c.upper_into.ensures.cell in
    let same : (record_at tree c.args.node.0).cell ≡ u = cell_of tree c.args.node.0 u at in
    let wide : length u ≡ n
    = omega (arith, c.upper_into.ensures.dims, c.any-u.ensures.dims, c.dims.ensures.value, c.of-tree.ensures.width) in
    let below : c.parents_of.new.steps ≤ c.upper_into.new.steps
    + (value_count u + 2 * 2 ^ value_count u) * (2 * n + 2)
    = rw (c.count_values.ensures.value, wide) at c.parents_of.ensures.steps in
    subst (λ cell. c.parents_of.new.steps ≤ c.args.steps.now + 16 * (n + 1) * 2 ^ value_count cell) (sym same)
    (omega (
      arith,
      below,
      c.upper_into.ensures.steps,
      c.upper_into.ensures.dims,
      wide,
      steps_of_parents n (value_count u),
    ))
