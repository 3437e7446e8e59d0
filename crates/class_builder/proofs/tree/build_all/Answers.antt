use Rattle.std.proofs.Common.{◌≡◌, ◌≤◌, ◌∙◌, [], ◌∷◌, None, ap, refl, sym, arith, length, replicate, nat_cmp}
use Rattle.std.proofs.lemmas.Result.{on_ok_weaker}
use Rattle.std.specs.FinMap as map
use Rattle.cube_defs.specs.Tree.{cell_at, nodes}
use Rattle.base_table.specs.Places.{named, rows_of}
use Rattle.cell_closure.proofs.CallerLemmas.{there}
use Rattle.build_trace.specs.Trace.{Act.{Add}}
use Rattle.qc_arena.specs.Map.{Arena}
use Rattle.class_builder.specs.Walk.{acts_from}
use Rattle.class_builder.proofs.Building.{does_then, err_again, ok_both, next_behind, next_prefix}
use Rattle.class_builder.proofs.Costs.{cost_done}
use Rattle.class_builder.proofs.Notes.{noted_stay}
use Rattle.class_builder.proofs.Standing.{part_long}
use Rattle.class_builder.specs.Stands.{HasDone}
use Rattle.class_builder.proofs.Whole.{all_done, first_next, no_cell, nodes_counted, root_going, root_path, tree_built}
use Rattle.class_builder.proofs.tree.build_all.Goals as goal

pub add_root-requires-clause-none : goal.add_root-requires-clause-none
add_root-requires-clause-none g c
    = no_cell c.args.builder.now.arena.now.now (replicate c.args.builder.now.arena.now.width None) c.requires.fresh.empty

pub drill-built-requires-clause-stands : goal.drill-built-requires-clause-stands
drill-built-requires-clause-stands g c =
    let rows = named c.args.part.now.table.now c.args.part.now.rows.now in
    let going = root_going c.args.part.now.table.now c.args.part.now.rows.now c.args.builder.now.arena.now
    (there c.args.part.now.table.now c.args.part.now.rows.now c.args.part.now.is.there) c.requires.all
    c.args.part.now.is.table c.args.part.now.is.some c.requires.fresh.width c.requires.fresh.opened c.requires.fresh.empty in
    let root = Add (replicate c.args.builder.now.arena.now.width None) ∷ [] in
    record {
      width = ap (λ (a : Arena). a.width) c.in-Ok.ensures.frame ∙ c.requires.fresh.width;
      next = next_behind root (acts_from c.args.part.now.table.now 0 rows) c.args.builder.now.arena.now
          c.add_root.new.arena (first_next c.args.part.now.table.now.measures (rows_of c.args.part.now.table.now) _
          c.args.builder.now.arena.now going)
          (c.in-Ok.ensures.made c.args.part.now.table.now.measures (rows_of c.args.part.now.table.now));
      path = root_path c.add_root.new.arena c.start.result c.args.part.now.shared.now c.args.builder.now.arena.now.width
          (part_long c.args.part.now.table.now c.args.part.now.rows.now c.args.part.now.shared.now c.args.part.now.is
          ∙ sym c.requires.fresh.width) (ap (λ k. cell_at c.add_root.new.arena.now k) c.start.ensures ∙ c.in-Ok.ensures.here);
      fronts = noted_stay c.args.part.now.table.now c.args.builder.now.arena.now c.add_root.new.arena
          c.args.builder.now.fronts.now (c.in-Ok.ensures.made 0 []).cells c.requires.fronts;
    }

pub returns-in-Ok-clause-tree : goal.returns-in-Ok-clause-tree
returns-in-Ok-clause-tree g c =
    let rows = named c.args.part.now.table.now c.args.part.now.rows.now in
    let going = root_going c.args.part.now.table.now c.args.part.now.rows.now c.args.builder.now.arena.now
    (there c.args.part.now.table.now c.args.part.now.rows.now c.args.part.now.is.there) c.requires.all
    c.args.part.now.is.table c.args.part.now.is.some c.requires.fresh.width c.requires.fresh.opened c.requires.fresh.empty in
    let root = Add (replicate c.args.builder.now.arena.now.width None) ∷ [] in
    on_ok_weaker c.drill-built.result
    (λ (d : HasDone c.args.part.now.table.now
    (acts_from c.args.part.now.table.now 0 (named c.args.part.now.table.now c.args.part.now.rows.now))
    c.add_root.new.arena c.drill-built.new.builder.arena.now c.drill-built.new.builder.fronts.now). tree_built
    c.args.part.now.table.now.measures (rows_of c.args.part.now.table.now) _ c.args.builder.now.arena.now
    c.drill-built.new.builder.arena.now going
    (does_then root (acts_from c.args.part.now.table.now 0 rows) c.args.builder.now.arena.now c.add_root.new.arena
    c.drill-built.new.builder.arena.now
    (c.in-Ok.ensures.made c.args.part.now.table.now.measures (rows_of c.args.part.now.table.now)) d.does))
    c.drill-built.ensures.done

pub returns-in-Ok-clause-fits : goal.returns-in-Ok-clause-fits
returns-in-Ok-clause-fits g c =
    let rows = named c.args.part.now.table.now c.args.part.now.rows.now in
    let going = root_going c.args.part.now.table.now c.args.part.now.rows.now c.args.builder.now.arena.now
    (there c.args.part.now.table.now c.args.part.now.rows.now c.args.part.now.is.there) c.requires.all
    c.args.part.now.is.table c.args.part.now.is.some c.requires.fresh.width c.requires.fresh.opened c.requires.fresh.empty in
    let root = Add (replicate c.args.builder.now.arena.now.width None) ∷ [] in
    let few : map.len c.drill-built.new.builder.arena.now.now ≤ c.drill-built.new.builder.arena.now.max
    = c.is_within.ensures in
    let max : c.drill-built.new.builder.arena.now.max ≡ c.args.builder.now.arena.now.max
    = ap (λ (a : Arena). a.max) (c.drill-built.ensures.frame ∙ c.in-Ok.ensures.frame) in
    on_ok_weaker c.drill-built.result
    (λ (d : HasDone c.args.part.now.table.now
    (acts_from c.args.part.now.table.now 0 (named c.args.part.now.table.now c.args.part.now.rows.now))
    c.add_root.new.arena c.drill-built.new.builder.arena.now c.drill-built.new.builder.fronts.now).
    let count : map.len c.drill-built.new.builder.arena.now.now
    ≡ length (nodes nat_cmp (rows_of c.args.part.now.table.now))
    = nodes_counted c.args.part.now.table.now.measures (rows_of c.args.part.now.table.now) _
    c.args.builder.now.arena.now c.drill-built.new.builder.arena.now going
    (does_then root (acts_from c.args.part.now.table.now 0 rows) c.args.builder.now.arena.now c.add_root.new.arena
    c.drill-built.new.builder.arena.now
    (c.in-Ok.ensures.made c.args.part.now.table.now.measures (rows_of c.args.part.now.table.now)) d.does) in
    omega arith)
    c.drill-built.ensures.done

pub returns-in-Err-clause-full : goal.returns-in-Err-clause-full
returns-in-Err-clause-full g c = λ e.
    let rows = named c.args.part.now.table.now c.args.part.now.rows.now in
    let going = root_going c.args.part.now.table.now c.args.part.now.rows.now c.args.builder.now.arena.now
    (there c.args.part.now.table.now c.args.part.now.rows.now c.args.part.now.is.there) c.requires.all
    c.args.part.now.is.table c.args.part.now.is.some c.requires.fresh.width c.requires.fresh.opened c.requires.fresh.empty in
    c.in-Err.ensures.full (err_again c.in-Err.error _ e) c.args.part.now.table.now.measures
    (rows_of c.args.part.now.table.now)
    (next_prefix (Add (replicate c.args.builder.now.arena.now.width None) ∷ [])
    (acts_from c.args.part.now.table.now 0 rows) c.args.builder.now.arena.now
    (first_next c.args.part.now.table.now.measures (rows_of c.args.part.now.table.now) _
    c.args.builder.now.arena.now going))

pub returns-in-Ok-clause-steps : goal.returns-in-Ok-clause-steps
returns-in-Ok-clause-steps g c =
    let table = c.args.part.now.table.now in
    let rows = named table c.args.part.now.rows.now in
    let a = c.args.builder.now.arena.now in
    let b = c.drill-built.new.builder.arena.now in
    let going = root_going table c.args.part.now.rows.now a
    (there table c.args.part.now.rows.now c.args.part.now.is.there) c.requires.all
    c.args.part.now.is.table c.args.part.now.is.some c.requires.fresh.width c.requires.fresh.opened c.requires.fresh.empty in
    let root = Add (replicate a.width None) ∷ [] in
    ok_both c.drill-built.result
    (λ (d : HasDone table (acts_from table 0 rows) c.add_root.new.arena b c.drill-built.new.builder.fronts.now) within.
    let done = all_done table.measures (rows_of table) _ a b going
    (does_then root (acts_from table 0 rows) a c.add_root.new.arena b
    (c.in-Ok.ensures.made table.measures (rows_of table)) d.does) in
    cost_done table.measures (rows_of table) _ b done table.dims c.args.builder.now.steps.now
    c.drill-built.new.builder.steps.now (replicate a.width None) (acts_from table 0 rows) refl
    (omega (arith, within, c.add_root.ensures.steps)))
    c.drill-built.ensures.done c.drill-built.ensures.steps
