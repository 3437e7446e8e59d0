use Rattle.std.proofs.Common.{◌≡◌, [], ◌∷◌, Some, false, suc, sym, subst}
use Rattle.std.proofs.lemmas.Result.{on_ok_weaker}
use Rattle.std.specs.Prelude.{IsSome}
use Rattle.std.specs.FinMap as map
use Rattle.cube_defs.specs.Cell.{cell_prefix}
use Rattle.cube_defs.specs.Tree.{cell_at}
use Rattle.tree_laws.proofs.CallerLemmas.{there}
use Rattle.base_table.specs.Places.{named, rows_of}
use Rattle.cube_laws.specs.Parting.{shared_by}
use Rattle.build_trace.specs.Trace.{Act.{Label}}
use Rattle.class_builder.specs.Building.{PerformsActs}
use Rattle.qc_arena.specs.Map.{Arena, CanChange}
use Rattle.class_builder.proofs.Building.{on_end}
use Rattle.class_builder.proofs.Notes.{noted_stay}
use Rattle.class_builder.proofs.Standing.{on_change}
use Rattle.class_builder.specs.PrefixNodes.{ArePrefixNodes}
use Rattle.class_builder.proofs.labels.link_part.Goals as goal

pub set_link-requires-clause-change : goal.set_link-requires-clause-change
set_link-requires-clause-change g c =
    subst (λ (a : Arena). CanChange a c.at.result.0) (sym c.shared_prefix_node-to.ensures.arena)
    (on_change c.args.builder.now.arena.now c.at.result.0 (cell_prefix c.args.group.now.dim c.args.group.now.upper.now)
    (on_end c.args.builder.now.arena.now c.args.path.now c.args.group.now.upper.now c.args.group.now.dim c.at.result.0
    c.requires.at.path c.at.ensures) c.requires.at.next.going.opened c.requires.at.next.going.touched)

pub set_link-requires-clause-target : goal.set_link-requires-clause-target
set_link-requires-clause-target g c =
    subst (λ (a : Arena). IsSome (map.get a.now c.shared_prefix_node-to.result.0))
    (sym c.shared_prefix_node-to.ensures.arena)
    (there c.args.builder.now.arena.now.now c.shared_prefix_node-to.result.0 _ c.shared_prefix_node-to.ensures.node)

pub returns-clause-done : goal.returns-clause-done
returns-clause-done g c =
    let t = c.args.group.now.table.now in
    let front = cell_prefix c.args.group.now.dim c.args.group.now.upper.now in
    let target = cell_prefix (suc c.args.group.now.dim) (shared_by (named t c.args.group.now.rows.now)) in
    let a = c.args.builder.now.arena.now in
    let b = c.shared_prefix_node-to.new.builder.arena.now in
    let same = c.shared_prefix_node-to.ensures.arena in
    let on = subst (λ (a : Arena). cell_at a.now c.at.result.0 ≡ Some front) (sym same)
    (on_end a c.args.path.now c.args.group.now.upper.now c.args.group.now.dim c.at.result.0 c.requires.at.path
    c.at.ensures) in
    let to = subst (λ (a : Arena). cell_at a.now c.shared_prefix_node-to.result.0 ≡ Some target)
    (sym same) c.shared_prefix_node-to.ensures.node in
    on_ok_weaker c.set_link.result (λ made. record {
      does = subst (λ (a : Arena). PerformsActs t.measures (rows_of t)
          (Label false front c.args.group.now.dim c.args.group.now.code target ∷ []) a c.set_link.new.arena) same
          (made t.measures (rows_of t) front target on to);
      fronts = noted_stay t b c.set_link.new.arena c.shared_prefix_node-to.new.builder.fronts.now
          (made 0 [] front target on to).cells
          (subst (λ f. ArePrefixNodes t b f) (sym c.shared_prefix_node-to.ensures.fronts)
          (subst (λ (a : Arena). ArePrefixNodes t a c.args.builder.now.fronts.now)
          (sym same) c.requires.at.fronts));
    }) c.set_link.ensures.made
