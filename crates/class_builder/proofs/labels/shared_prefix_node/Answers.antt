use Rattle.std.proofs.Common.{false, ◌≡◌, ◌<◌, Some, suc, sym, ap, subst, ◌∙◌, arith}
use Rattle.cube_defs.specs.Cell.{cell_prefix}
use Rattle.cube_laws.proofs.CallerLemmas.{nat_equality, cell_eq-exact, shared_some}
use Rattle.base_table.specs.Places.{named, rows_of}
use Rattle.build_trace.specs.Ready.{HasPath}
use Rattle.cube_laws.specs.Parting.{shared_by}
use Rattle.class_builder.proofs.Building.{on_path}
use Rattle.build_trace.proofs.CallerLemmas.{link_ready}
use Rattle.class_builder.proofs.Uppers.{differs_after, prefix_apart}
use Rattle.class_builder.proofs.Prefixes.{prefix_less}
use Rattle.class_builder.proofs.Ways.{way_down}
use Rattle.cell_closure.proofs.CallerLemmas.{there}
use Rattle.class_builder.proofs.Notes.{found_prefix}
use Rattle.class_builder.proofs.labels.shared_prefix_node.Goals as goal

pub descend-requires-clause-from : goal.descend-requires-clause-from
descend-requires-clause-from g c =
    let shared = shared_by (named c.args.group.now.table.now c.args.group.now.rows.now) in
    let same : cell_prefix c.args.at shared ≡ cell_prefix c.args.at c.args.group.now.upper.now
    = cell_eq-exact nat_equality _ _ c.requires.front in
    on_path c.args.builder.now.arena.now c.args.path.now c.args.group.now.upper.now c.args.group.now.dim c.args.at c.at.result.0
    c.requires.at.path (omega arith) c.at.ensures
    ∙ ap (λ b. Some b) (sym same
    ∙ sym (prefix_less c.args.at (suc c.args.group.now.dim) _ shared (omega arith) c.shared_prefix-target.ensures.front))

pub descend-requires-clause-way : goal.descend-requires-clause-way
descend-requires-clause-way g c =
    let shared = shared_by (named c.args.group.now.table.now c.args.group.now.rows.now) in
    let going = c.requires.at.next.going in
    way_down c.args.group.now.table.now.measures (rows_of c.args.group.now.table.now) c.requires.at.next.done _
    c.args.builder.now.arena.now going c.shared_prefix-target.result c.args.at c.args.group.now.dim
    (subst (HasPath c.requires.at.next.done) (sym c.shared_prefix-target.ensures.front)
    (link_ready c.args.group.now.table.now.measures c.args.builder.now.arena.now.width
    (rows_of c.args.group.now.table.now) going.wide (shared_some (rows_of c.args.group.now.table.now) going.some)
    c.requires.at.next.done c.requires.at.next.rest false
    (cell_prefix c.args.group.now.dim c.args.group.now.upper.now) c.args.group.now.dim c.args.group.now.code
    (cell_prefix (suc c.args.group.now.dim) shared) going.whole
    (prefix_apart c.args.group.now.dim (suc c.args.group.now.dim) shared c.args.group.now.upper.now (omega arith)
    (differs_after c.args.at c.args.group.now.dim shared c.args.group.now.upper.now c.requires.before c.requires.gains))))

pub returns-in-Some-clause-node : goal.returns-in-Some-clause-node
returns-in-Some-clause-node g c = c.in-Some.ensures c.args.builder.now.arena.now c.requires.at.fronts

pub returns-in-Some-find-clause-node : goal.returns-in-Some-find-clause-node
returns-in-Some-find-clause-node g c =
    let t = c.args.group.now.table.now in
    let within : c.args.group.now.dim < t.dims = c.args.group.now.is.dim in
    found_prefix t c.args.builder.now.arena.now c.args.builder.now.fronts.now c.args.group.now.rows.now
    c.shared_prefix-target.result 0 c.args.group.now.dim c.in-Some-find.node.0 _ c.args.group.now.is.under.table
    (there t c.args.group.now.rows.now c.args.group.now.is.under.there) c.args.group.now.is.under.some
    within c.shared_prefix-target.ensures.front c.in-Some-find.ensures.full c.args.group.now.is.under.some
    c.requires.at.fronts c.in-Some-find.ensures.node c.in-Some-find.ensures.some
