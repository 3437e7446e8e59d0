use Rattle.std.proofs.Common.{sym, ap, ◌∙◌, arith}
use Rattle.std.specs.Cmp.{nat_cmp_total}
use Rattle.std.specs.FinMap as numbers
use Rattle.std.specs.Ordering.{nat_cmp}
use Rattle.std.proofs.lemmas.Result.{IfOk-weaker}
use Rattle.cube_defs.specs.Text.{text_cmp}
use Rattle.cube_laws.specs.Recoding.{coded_cell}
use Rattle.qc_arena.specs.RecordReaders.{record_at}
use Rattle.tree_search.proofs.CallerLemmas.{wide, cell_there}
use Rattle.value_dict.specs.Recoded.{text_in, decoded_row_list}
use Rattle.value_dict.proofs.CallerLemmas.{told-known}
use Rattle.lower_bounds.proofs.CallerLemmas.{class_there, own_closure}
use Rattle.quotient_lattice.specs.Neighbours as lattice
use Rattle.quotient_lattice.proofs.Coded.{is_parent-coded}
use Rattle.quotient_lattice.proofs.PlacedOrder.{nodes_are_classes, nodes_told}
use Rattle.quotient_lattice.proofs.NodesDecoded.{class_known, tells, text_anti, text_total}
use Rattle.quotient_lattice.proofs.downward.children.Goals as goal

pub returns-in-Ok-sort-clause-nodes : goal.returns-in-Ok-sort-clause-nodes
returns-in-Ok-sort-clause-nodes g c = λ source h known.
    let cells = rw c.of-tree.ensures.tree at c.in-Ok.ensures.cells in
    let each = rw (c.of-tree.ensures.width, c.of-tree.ensures.tree) at c.in-Ok.ensures.each in
    let tree = g.T.Nodes.tree c.args.tree.now in
    let n = g.T.Nodes.width c.args.tree.now in
    let dict = c.args.dict.now in
    let u = (record_at tree c.args.node.0).cell in
    let t = class_there tree c.args.node.0 c.requires.class in
    let long = wide n tree source h c.args.node.0 t in
    let own = own_closure _ _ source h c.args.node.0 u (cell_there tree c.args.node.0 t) c.requires.class in
    IfOk-weaker c.nodes_alone.result _ _
    (λ nodes are. nodes_told n tree source h (λ d. lattice.is_parent nat_cmp source.rows u d) c.in-Ok.found.items
    c.sort.new.found.items nodes.items cells c.in-Ok.ensures.once c.in-Ok-sort.ensures.same are
    (each source h)
    dict c.dims-dims.ensures.dictionary known c.requires.dims
    (λ d. lattice.is_parent text_cmp (decoded_row_list dict.lists source.rows)
    (coded_cell (text_in dict.lists) 0 u) d)
    (λ d k. is_parent-coded nat_cmp_total numbers.nat_cmp-IsAntisymmetric text_total text_anti
    (tells n tree dict source h c.dims-dims.ensures.dictionary known c.requires.dims) source.rows known u d
    (class_known n tree dict source h c.dims-dims.ensures.dictionary known c.requires.dims u own) k)
    c.in-Ok-sort.ensures.sorted
    ∙ ap (lattice.children text_cmp (decoded_row_list dict.lists source.rows))
    (sym (told-known dict.lists u (omega (arith, long, c.requires.dims)))))
    c.nodes_alone.ensures

pub returns-in-Ok-sort-clause-classes : goal.returns-in-Ok-sort-clause-classes
returns-in-Ok-sort-clause-classes g c =
    let cells = rw c.of-tree.ensures.tree at c.in-Ok.ensures.cells in
    let each = rw (c.of-tree.ensures.width, c.of-tree.ensures.tree) at c.in-Ok.ensures.each in
    let source = c.requires.tree.0 in
    let h = c.requires.tree.1 in
    let tree = g.T.Nodes.tree c.args.tree.now in
    IfOk-weaker c.nodes_alone.result _ _
    (λ nodes are. nodes_are_classes _ tree source h
    (λ d. lattice.is_parent nat_cmp source.rows (record_at tree c.args.node.0).cell d) c.in-Ok.found.items
    c.sort.new.found.items nodes.items cells c.in-Ok.ensures.once c.in-Ok-sort.ensures.same are
    (each source h))
    c.nodes_alone.ensures
