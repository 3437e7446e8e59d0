use Rattle.std.proofs.Common.{◌≡◌, ◌≤◌, ◌+◌, ◌*◌, ◌-◌, None}
use Rattle.base_table.specs.Places.{named}
use Rattle.build_trace.specs.Trace.{acts_at}
use Rattle.qc_arena.specs.Map.{Arena, frame}
use Rattle.class_builder.specs.Costs.{cost_of_acts}
use Rattle.class_builder.specs.Stands.{HasDone, StandsAt}
use Rattle.class_builder.specs.Walk.{acts_from}
use Rattle.class_builder.specs.declared.prefix_nodes.PrefixNodes.{PrefixNodes}
use Rattle.class_builder.proofs.Steps.{parts_from}
use Rattle.class_builder.proofs.walk.+drilling.Given as goal

abbrev pub decreases-drill : goal.decreases-drill
decreases-drill g l = 4 * (l.part.now.table.now.dims - l.first) + 3

abbrev pub decreases-drill_at : goal.decreases-drill_at
decreases-drill_at g l = 4 * (l.part.now.table.now.dims - l.dim) + 2

abbrev pub decreases-drill_in : goal.decreases-drill_in
decreases-drill_in g l = 4 * (l.part.now.table.now.dims - l.dim) + 1

abbrev pub decreases-drill_part : goal.decreases-drill_part
decreases-drill_part g l = 4 * (l.group.now.table.now.dims - l.group.now.dim)

-- who does what is to come has done the whole
abbrev pub invariant-drill-dims : goal.invariant-drill-dims
invariant-drill-dims g l = record {
  whole : (c : Arena) (f : PrefixNodes)
      → HasDone l.part.table.now (acts_from l.part.table.now l.dim (named l.part.table.now l.part.rows.now))
      l.builder.arena.now c f
      → HasDone l.part.table.now (acts_from l.part.table.now l.first (named l.part.table.now l.part.rows.now))
      l.fn.builder.arena.now c f;
  stands : StandsAt l.part.table.now l.part.shared.now l.dim
      (acts_from l.part.table.now l.dim (named l.part.table.now l.part.rows.now)) l.builder.arena.now l.path
      l.builder.fronts.now;
  rest : frame l.builder.arena.now ≡ frame l.fn.builder.arena.now;
  same : l.builder.arena.ghost_name ≡ l.fn.builder.arena.ghost_name;
  same_steps : l.builder.steps.ghost_name ≡ l.fn.builder.steps.ghost_name;
  steps : l.builder.steps.now + cost_of_acts l.part.table.now.dims
      (acts_from l.part.table.now l.dim (named l.part.table.now l.part.rows.now))
      ≤ l.fn.builder.steps.now + cost_of_acts l.part.table.now.dims
      (acts_from l.part.table.now l.first (named l.part.table.now l.part.rows.now));
}

abbrev pub invariant-drill_in-parts : goal.invariant-drill_in-parts
invariant-drill_in-parts g l = record {
  whole : (c : Arena) (f : PrefixNodes)
      → HasDone l.part.table.now
      (parts_from l.part.table.now l.dim l.part.shared.now (named l.part.table.now l.part.rows.now) l.k)
      l.builder.arena.now c f
      → HasDone l.part.table.now (acts_at (acts_from l.part.table.now (l.dim + 1)) l.dim l.part.shared.now None
      (named l.part.table.now l.part.rows.now)) l.fn.builder.arena.now c f;
  stands : StandsAt l.part.table.now l.part.shared.now l.dim
      (parts_from l.part.table.now l.dim l.part.shared.now (named l.part.table.now l.part.rows.now) l.k) l.builder.arena.now
      l.path l.builder.fronts.now;
  rest : frame l.builder.arena.now ≡ frame l.fn.builder.arena.now;
  same : l.builder.arena.ghost_name ≡ l.fn.builder.arena.ghost_name;
  same_steps : l.builder.steps.ghost_name ≡ l.fn.builder.steps.ghost_name;
  steps : l.builder.steps.now + cost_of_acts l.part.table.now.dims
      (parts_from l.part.table.now l.dim l.part.shared.now (named l.part.table.now l.part.rows.now) l.k)
      ≤ l.fn.builder.steps.now + cost_of_acts l.part.table.now.dims
      (acts_at (acts_from l.part.table.now (l.dim + 1)) l.dim l.part.shared.now None
      (named l.part.table.now l.part.rows.now));
}
