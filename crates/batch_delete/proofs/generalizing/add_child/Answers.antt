use Rattle.std.proofs.Common.{◌∙◌, arith, get_or, length, sym, ap}
use Rattle.batch_delete.specs.declared.generalizing.NodeCell.{NodeCell}
use Rattle.batch_delete.specs.Generalizing.{no_node_cell}
use Rattle.batch_delete.proofs.Childs.{cell_wide}
use Rattle.batch_delete.proofs.Growing.{item_at, item_is}
use Rattle.batch_delete.proofs.generalizing.add_child.Goals as goal

pub set-requires-clause-dim : goal.set-requires-clause-dim
set-requires-clause-dim g c =
    let xs = c.args.list.now.items in
    let here = c.index-parent.result.now in
    let is = item_is xs c.args.k no_node_cell (get_or xs c.args.k here) (item_at xs c.args.k here c.requires.place) in
    let wide = cell_wide c.args.arena.now.width c.args.arena.now.now c.requires.tree.0 c.requires.tree.1 _ _
    c.requires.cell in
    let same = c.copy-cell.ensures.dims in
    let at = ap (λ (b : NodeCell). length b.cell) (is ∙ sym c.index-parent.ensures) in
    omega arith
