use Rattle.std.proofs.Common.{sym, ap, subst, ◌∙◌, arith}
use Rattle.std.specs.Cmp.{nat_cmp_total}
use Rattle.std.specs.FinMap as numbers
use Rattle.std.specs.Ordering.{nat_cmp}
use Rattle.std.proofs.lemmas.Result.{IfOk-weaker}
use Rattle.cube_defs.specs.Text.{text_cmp}
use Rattle.cube_laws.specs.Recoding.{coded_cell}
use Rattle.iceberg_query.specs.Asked.{ask_in}
use Rattle.iceberg_query.specs.Measured.{AreMeasured}
use Rattle.iceberg_query.proofs.CallerLemmas.{are_measured}
use Rattle.qc_arena.specs.RecordReaders.{record_at}
use Rattle.tree_search.proofs.CallerLemmas.{wide, cell_there}
use Rattle.value_dict.specs.Recoded.{text_in, decoded_row_list}
use Rattle.value_dict.proofs.CallerLemmas.{told-known}
use Rattle.lower_bounds.proofs.CallerLemmas.{class_there, own_closure}
use Rattle.quotient_lattice.specs.Neighbours as lattice
use Rattle.quotient_lattice.proofs.Coded.{is_rolled-coded}
use Rattle.quotient_lattice.proofs.Lowest.{all_wide, lowest_kept}
use Rattle.quotient_lattice.proofs.PlacedOrder.{nodes_are_classes, nodes_told}
use Rattle.quotient_lattice.proofs.NodesDecoded.{class_known, tells, text_anti, text_total}
use Rattle.quotient_lattice.proofs.rolling.rollup.Goals as goal

pub invariant_of-selection : goal.invariant_of-selection
invariant_of-selection g c =
    let s = c.requires.measure in
    record {
      measured = subst (λ tree. AreMeasured tree c.args.ask.now.kind) (sym c.of-tree.ensures.tree)
          (are_measured _ _ s.0 s.1 c.args.ask.now.kind s.2);
    }

pub most_general_of-requires : goal.most_general_of-requires
most_general_of-requires g c =
    let cells = rw c.of-tree.ensures.tree at c.in-Ok.ensures.cells in
    let met = rw (c.of-tree.ensures.width, c.of-tree.ensures.tree) at c.in-Ok.ensures.met in
    all_wide _ _ c.requires.tree.0 c.requires.tree.1 c.args.ask.now c.args.node.0 c.in-Ok.met.items
    cells (met c.requires.tree.0 c.requires.tree.1)

pub returns-in-Ok-sort-clause-nodes : goal.returns-in-Ok-sort-clause-nodes
returns-in-Ok-sort-clause-nodes g c = λ source h known.
    let cells = rw c.of-tree.ensures.tree at c.in-Ok.ensures.cells in
    let met = rw (c.of-tree.ensures.width, c.of-tree.ensures.tree) at c.in-Ok.ensures.met in
    let tree = g.T.Nodes.tree c.args.tree.now in
    let n = g.T.Nodes.width c.args.tree.now in
    let dict = c.args.dict.now in
    let ask = ask_in c.args.ask.now in
    let u = (record_at tree c.args.node.0).cell in
    let t = class_there tree c.args.node.0 c.requires.class in
    let long = wide n tree source h c.args.node.0 t in
    let own = own_closure _ _ source h c.args.node.0 u (cell_there tree c.args.node.0 t) c.requires.class in
    let kept = c.in-Ok-most_general_of.kept.items in
    let low = lowest_kept n tree source h c.args.ask.now c.args.node.0 c.in-Ok.met.items cells
    (met source h) kept c.in-Ok-most_general_of.ensures c.in-Ok.ensures.once in
    IfOk-weaker c.nodes_alone.result _ _
    (λ nodes are. nodes_told n tree source h (lattice.is_rolled nat_cmp source.measures source.rows ask u) kept
    c.sort.new.found.items nodes.items low.0 low.1 c.in-Ok-sort.ensures.same are low.2
    dict c.dims-dims.ensures.dictionary known c.requires.dims
    (lattice.is_rolled text_cmp source.measures (decoded_row_list dict.lists source.rows) ask
    (coded_cell (text_in dict.lists) 0 u))
    (λ d k. is_rolled-coded nat_cmp_total numbers.nat_cmp-IsAntisymmetric text_total text_anti
    (tells n tree dict source h c.dims-dims.ensures.dictionary known c.requires.dims) source.rows known
    source.measures ask u
    (class_known n tree dict source h c.dims-dims.ensures.dictionary known c.requires.dims u own) d k)
    c.in-Ok-sort.ensures.sorted
    ∙ ap (lattice.rollup text_cmp source.measures (decoded_row_list dict.lists source.rows) ask)
    (sym (told-known dict.lists u (omega (arith, long, c.requires.dims)))))
    c.nodes_alone.ensures

pub returns-in-Ok-sort-clause-classes : goal.returns-in-Ok-sort-clause-classes
returns-in-Ok-sort-clause-classes g c =
    let cells = rw c.of-tree.ensures.tree at c.in-Ok.ensures.cells in
    let met = rw (c.of-tree.ensures.width, c.of-tree.ensures.tree) at c.in-Ok.ensures.met in
    let source = c.requires.tree.0 in
    let h = c.requires.tree.1 in
    let tree = g.T.Nodes.tree c.args.tree.now in
    let n = g.T.Nodes.width c.args.tree.now in
    let ask = ask_in c.args.ask.now in
    let u = (record_at tree c.args.node.0).cell in
    let kept = c.in-Ok-most_general_of.kept.items in
    let low = lowest_kept n tree source h c.args.ask.now c.args.node.0 c.in-Ok.met.items cells
    (met source h) kept c.in-Ok-most_general_of.ensures c.in-Ok.ensures.once in
    IfOk-weaker c.nodes_alone.result _ _
    (λ nodes are. nodes_are_classes n tree source h (lattice.is_rolled nat_cmp source.measures source.rows ask u) kept
    c.sort.new.found.items nodes.items low.0 low.1 c.in-Ok-sort.ensures.same are low.2)
    c.nodes_alone.ensures
