use Rattle.std.proofs.Common.{◌<◌, length, subst, sym, arith, rules}
use Rattle.cell_closure.proofs.CallerLemmas.{there}
use Rattle.class_builder.specs.PrefixNodes.{ArePrefixNodes}
use Rattle.class_builder.proofs.Notes.{prefix_of_row, noted_more}
use Rattle.class_builder.proofs.prefix_nodes.PrefixNodes.note.Goals as goal
use Rattle.class_builder.proofs.prefix_nodes.PrefixNodes.note.Goals.{in-Some, in_default}

pub rows-preserved : goal.rows-preserved
rows-preserved c = λ a h at.
    let t = c.args.part.now.table.now in
    let nos = c.args.part.now.rows.now in
    let old = c.rows.invariant a h at in
    elim c.match-get_mut.branch [
      | in-Some w ↦
          let lt : c.place-place.result < length c.rows.self.nodes.items = search rules in
          let within : c.args.dim < t.dims = omega (arith, c.requires.dim, c.requires.dims, h.dims) in
          subst (λ f. ArePrefixNodes t a f) (sym w.self-is)
          (noted_more t a c.rows.self _ c.args.dim c.place-place.result c.args.node within c.place-place.ensures lt
          (prefix_of_row t a nos c.args.part.now.shared.now c.rows.row-index c.args.dim c.args.node.0 _
          c.args.part.now.is.table (there t nos c.args.part.now.is.there) c.args.part.now.is.some c.args.part.now.is.shared
          (c.is_full.ensures c.if-is_full.true) c.rows-test.true at) old)
      | in_default w ↦ subst (λ f. ArePrefixNodes t a f) (sym w.self-is) old
    ]
