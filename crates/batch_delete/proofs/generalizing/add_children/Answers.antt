use Rattle.std.proofs.Common.{◌≡◌, arith, get_or, length}
use Rattle.batch_delete.specs.Generalizing.{no_node_cell}
use Rattle.batch_delete.proofs.Childs.{cell_wide}
use Rattle.batch_delete.proofs.Growing.{grown_more, grown_none, item_at, item_is}
use Rattle.batch_delete.proofs.generalizing.add_children.Goals as goal

pub nodes-init : goal.nodes-init
nodes-init g c =
    let t = c.args.arena.now.now in
    record {
      grown = grown_none t c.args.arena.now.width c.args.dim c.args.code c.args.list.now.items c.requires.dim
          c.requires.cells (cell_wide c.args.arena.now.width t c.requires.tree.0 c.requires.tree.1)
          c.requires.tree.1.canonical.once c.requires.short c.requires.order;
      steps = omega arith;
    }

pub add_child-requires : goal.add_child-requires
add_child-requires g c =
    let old = c.args.list.now.items in
    let many = c.len-many.ensures in
    let longer = c.nodes.invariant.grown.longer in
    let at = item_at old c.nodes.k no_node_cell (omega arith) in
    let b = get_or old c.nodes.k no_node_cell in
    let is = item_is c.nodes.list.items c.nodes.k no_node_cell b (c.nodes.invariant.grown.kept c.nodes.k b at) in
    record {
      tree = c.requires.tree;
      place = omega (arith, many, c.nodes-test.true, longer);
      cell = rw is (c.requires.cells c.nodes.k b at);
      behind = rw is (c.requires.short c.nodes.k b at);
      dim = c.requires.dim;
      code = c.requires.code;
    }

pub nodes-preserved : goal.nodes-preserved
nodes-preserved g c =
    let t = c.args.arena.now.now in
    let old = c.args.list.now.items in
    let many = c.len-many.ensures in
    let at = item_at old c.nodes.k no_node_cell (omega arith) in
    let is = item_is c.nodes.list.items c.nodes.k no_node_cell (get_or old c.nodes.k no_node_cell)
    (c.nodes.invariant.grown.kept c.nodes.k (get_or old c.nodes.k no_node_cell) at) in
    let two = c.add_child.ensures.steps in
    let had = c.nodes.invariant.steps in
    record {
      grown = grown_more t c.args.arena.now.width c.args.dim c.args.code old c.requires.dim c.requires.cells
          (cell_wide c.args.arena.now.width t c.requires.tree.0 c.requires.tree.1) c.requires.tree.1.canonical.once
          c.requires.short c.requires.order
          c.nodes.k (get_or old c.nodes.k no_node_cell) c.nodes.list.items c.add_child.new.list.items
          (omega arith) at c.nodes.invariant.grown
          (rw (← is) c.in_ok-add_child.ensures.grows);
      steps = omega arith;
    }

pub returns-clause-grown : goal.returns-clause-grown
returns-clause-grown g c =
    let all : c.nodes.k ≡ length c.args.list.now.items
    = omega (arith, c.len-many.ensures, c.nodes-test.false, c.nodes.auto.k-end) in
    rw (← all) c.nodes.invariant.grown

pub returns-clause-steps : goal.returns-clause-steps
returns-clause-steps g c = omega (arith, c.nodes.invariant.steps, c.len-many.ensures, c.nodes.auto.k-end)
