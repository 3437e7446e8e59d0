use Rattle.std.proofs.Common.{◌≡◌, ◌∙◌, ℕ, List, Option, sym}
use Rattle.cube_defs.specs.Tree.{Edge, renamed_edge}
use Rattle.qc_arena.specs.RecordReaders.{record_at}
use Rattle.tree_records.specs.Lines.{line_at}
use Rattle.tree_records.proofs.Lists.{alike_next}
use Rattle.tree_records.proofs.twins.are_edges_same.Goals as goal

pub edges-preserved : goal.edges-preserved
edges-preserved g c = λ rooted.
    let one = c.args.one.now.now in
    let other = c.args.other.now.now in
    let x : Edge ℕ ℕ = record {
      dim = c.edge_at-dim.result.0;
      value = c.edge_at-dim.result.1;
      target = c.edge_at-dim.result.2.0;
    } in
    let y : Edge ℕ ℕ = record {
      dim = c.edge_at-own_dim.result.0;
      value = c.edge_at-own_dim.result.1;
      target = c.edge_at-own_dim.result.2.0;
    } in
    let line = c.is_same_node.ensures rooted c.if-not-is_same_node.false in
    let same : renamed_edge (line_at one) x ≡ renamed_edge (line_at other) y = λ j. let e : Edge ℕ (Option (List ℕ))
    = record {
      dim = c.if-dim-own_dim.false j;
      value = c.if-code-own_code.false j;
      target = (line.1 ∙ sym line.2) j;
    } in
    e in
    alike_next (renamed_edge (line_at one)) (renamed_edge (line_at other)) (record_at one c.args.a.0).edges
    (record_at other c.args.b.0).edges c.edges.k x y c.edge_at-dim.ensures.value c.edge_at-own_dim.ensures.value same
    (c.edges.invariant rooted)
