-- The kept tree has as many nodes and edges as that of the rows of texts.
use Rattle.std.proofs.Common.{◌≡◌, ◌∙◌, arith, length}
use Rattle.std.specs.Ordering.{nat_cmp}
use Rattle.std.specs.Cmp.{nat_cmp_total}
use Rattle.std.specs.Cmp.Lexicographic.{lists_total}
use Rattle.std.specs.FinMap as finmap
use Rattle.std.specs.FinMap.{nat_cmp-IsAntisymmetric, slice_cmp-IsAntisymmetric}
use Rattle.cube_defs.specs.Text.{text_cmp}
use Rattle.cube_defs.specs.Tree.{links, nodes, tree_edges}
use Rattle.qc_arena.proofs.CallerLemmas.{both-kinds}
use Rattle.tree_laws.specs.Counts.{links_in, tree_edges_in}
use Rattle.tree_laws.proofs.CallerLemmas.{links_as_many, links_counted, nodes_as_many, nodes_counted, tree_edges_as_many}
use Rattle.tree_laws.proofs.CallerLemmas.{tree_edges_counted}
use Rattle.value_dict.proofs.CallerLemmas.{places-apart}
use Rattle.warehouse.specs.Counted.{tree_size}
use Rattle.warehouse.specs.State.{AreContents, Contents, coded_rows}
use Rattle.warehouse.specs.Widening.{size_of}

module _ (held : Contents) (is : AreContents held) where
  nodes-sized : finmap.len held.tree ≡ length (nodes text_cmp held.state.rows)
  nodes-sized =
      nodes_counted nat_cmp_total nat_cmp-IsAntisymmetric (length held.state.schema.dims)
      (length held.state.schema.measures) (coded_rows held.state) is.tree.wide held.tree is.tree.canonical
      ∙ nodes_as_many (lists_total nat_cmp_total) (slice_cmp-IsAntisymmetric nat_cmp-IsAntisymmetric) nat_cmp_total
      nat_cmp-IsAntisymmetric (places-apart held.state.texts) held.state.rows is.state.consistent.known

  tree_edges-sized : tree_edges_in nat_cmp held.tree ≡ tree_edges text_cmp held.state.rows
  tree_edges-sized =
      tree_edges_counted nat_cmp_total nat_cmp-IsAntisymmetric (length held.state.schema.dims)
      (length held.state.schema.measures) (coded_rows held.state) is.tree.wide held.tree is.tree.canonical
      ∙ tree_edges_as_many (lists_total nat_cmp_total) (slice_cmp-IsAntisymmetric nat_cmp-IsAntisymmetric) nat_cmp_total
      nat_cmp-IsAntisymmetric (places-apart held.state.texts) held.state.rows is.state.consistent.known

  links-sized : links_in nat_cmp held.tree ≡ links text_cmp held.state.rows
  links-sized =
      links_counted nat_cmp_total nat_cmp-IsAntisymmetric (length held.state.schema.dims)
      (length held.state.schema.measures) (coded_rows held.state) is.tree.wide held.tree is.tree.canonical
      ∙ links_as_many (lists_total nat_cmp_total) (slice_cmp-IsAntisymmetric nat_cmp-IsAntisymmetric) nat_cmp_total
      nat_cmp-IsAntisymmetric (places-apart held.state.texts) held.state.rows is.state.consistent.known

  pub tree-sized : size_of held.tree ≡ tree_size held.state.rows
  tree-sized = omega (arith, nodes-sized, tree_edges-sized, links-sized, both-kinds held.tree)
