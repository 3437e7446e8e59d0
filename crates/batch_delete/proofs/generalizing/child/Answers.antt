use Rattle.std.proofs.Common.{◌∙◌, ap, sym}
use Rattle.std.specs.Option.{option_map}
use Rattle.qc_arena.specs.RecordReaders.{number, record_at}
use Rattle.tree_search.proofs.CallerLemmas.{cell_there}
use Rattle.batch_delete.proofs.Childs.{apart, no_label, no_parent, target_there, under}
use Rattle.batch_delete.proofs.generalizing.child.Goals as goal

pub parent-requires : goal.parent-requires
parent-requires g c =
    let t = c.args.arena.now.now in
    target_there c.args.arena.now.width t c.requires.tree.0 c.requires.tree.1 c.args.node.0
    (record_at t c.args.node.0).cell (cell_there t c.args.node.0 c.requires.node) c.args.dim c.args.code
    c.requires.behind c.requires.dim
    c.in-Some.target.0 (sym c.edge.ensures.value ∙ ap (option_map number) c.in-Some.is)

pub returns-in-None-clause-none : goal.returns-in-None-clause-none
returns-in-None-clause-none g c =
    let t = c.args.arena.now.now in
    no_label c.args.arena.now.width t c.requires.tree.0 c.requires.tree.1 c.args.node.0 (record_at t c.args.node.0).cell
    (cell_there t c.args.node.0 c.requires.node) c.args.dim c.args.code c.requires.behind c.requires.dim
    (sym c.edge.ensures.value ∙ ap (option_map number) c.in-None.is)

pub returns-in-None-parent-clause-none : goal.returns-in-None-parent-clause-none
returns-in-None-parent-clause-none g c =
    let t = c.args.arena.now.now in
    absurd (no_parent c.args.arena.now.width t c.requires.tree.0 c.requires.tree.1 c.args.node.0
    (record_at t c.args.node.0).cell (cell_there t c.args.node.0 c.requires.node) c.args.dim c.args.code
    c.requires.behind c.requires.dim
    c.in-Some.target.0 (sym c.edge.ensures.value ∙ ap (option_map number) c.in-Some.is) c.parent.result
    c.parent.ensures.value c.in-None-parent.is)

pub returns-then-parent-node-clause-some : goal.returns-then-parent-node-clause-some
returns-then-parent-node-clause-some g c =
    let t = c.args.arena.now.now in
    under c.args.arena.now.width t c.requires.tree.0 c.requires.tree.1 c.args.node.0 (record_at t c.args.node.0).cell
    (cell_there t c.args.node.0 c.requires.node) c.args.dim c.args.code c.requires.behind c.requires.dim
    c.in-Some.target.0 (sym c.edge.ensures.value ∙ ap (option_map number) c.in-Some.is) c.parent.result
    c.in-Some-parent.parent c.parent.ensures.value c.in-Some-parent.is c.if-parent-node.true

pub returns-else-parent-node-clause-none : goal.returns-else-parent-node-clause-none
returns-else-parent-node-clause-none g c =
    let t = c.args.arena.now.now in
    apart c.args.arena.now.width t c.requires.tree.0 c.requires.tree.1 c.args.node.0 (record_at t c.args.node.0).cell
    (cell_there t c.args.node.0 c.requires.node) c.args.dim c.args.code c.requires.behind c.requires.dim
    c.in-Some.target.0 (sym c.edge.ensures.value ∙ ap (option_map number) c.in-Some.is) c.parent.result
    c.in-Some-parent.parent c.parent.ensures.value c.in-Some-parent.is c.if-parent-node.false
