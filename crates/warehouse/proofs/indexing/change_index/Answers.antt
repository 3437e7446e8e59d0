use Rattle.std.proofs.Common.{ℕ, Option, List, ◌∙◌, subst, sym}
use Rattle.std.specs.List.{All}
use Rattle.aggregates.specs.declared.agg.Agg.{Agg}
use Rattle.cell_core.specs.declared.cell.NodeNo.{NodeNo}
use Rattle.cube_defs.specs.Rows as defs
use Rattle.measure_index.specs.Entries.{HaveMeasure}
use Rattle.measure_index.specs.Rankings.{IsIndex}
use Rattle.qc_arena.specs.Changes.{AreNew, class_now, class_was}
use Rattle.warehouse.proofs.Deletions.{ok-then}
use Rattle.warehouse.proofs.Indexed.{IsBegun, begun, measured}
use Rattle.warehouse.proofs.indexing.change_index.Goals as goal

pub change-requires-clause-add : goal.change-requires-clause-add
change-requires-clause-add c =
    let tree = c.args.tree.now in
    let b : IsBegun c.args.schema.now tree c.args.index.now
    = begun c.args.schema.now tree c.args.index.now c.requires.opened c.requires.before in
    subst (λ (ps : List (NodeNo × Agg)). All (λ r. HaveMeasure r.kind ps) c.args.index.now) (sym c.deref.ensures.value)
    (measured c.args.schema.now tree.now c.args.index.now c.dims-dims.ensures.layout c.requires.now b.indexed.kinds
    (class_was tree) c.in-Ok-classes_added.added.items c.in-Ok-classes_added.ensures)

pub change-requires-clause-remove : goal.change-requires-clause-remove
change-requires-clause-remove c =
    let tree = c.args.tree.now in
    let b : IsBegun c.args.schema.now tree c.args.index.now
    = begun c.args.schema.now tree c.args.index.now c.requires.opened c.requires.before in
    subst (λ (ps : List (NodeNo × Agg)). All (λ r. HaveMeasure r.kind ps) c.args.index.now)
    (sym c.deref-2.ensures.value)
    (measured c.args.schema.now b.tree c.args.index.now c.dims-dims.ensures.layout b.is b.indexed.kinds
    (class_now tree) c.in-Ok.removed.items
    (subst (λ (class : ℕ → Option defs.Agg). AreNew (class_now tree) class c.in-Ok.removed.items) b.was
    c.in-Ok.ensures))

pub returns-clause-indexed : goal.returns-clause-indexed
returns-clause-indexed c =
    let tree = c.args.tree.now in
    let b : IsBegun c.args.schema.now tree c.args.index.now
    = begun c.args.schema.now tree c.args.index.now c.requires.opened c.requires.before in
    ok-then c.change.result (λ classes. record {
      classes =
          classes (class_was tree) (class_now tree)
          (subst (λ (ps : List (NodeNo × Agg)). AreNew (class_was tree) (class_now tree) ps)
          (sym c.deref.ensures.value) c.in-Ok-classes_added.ensures)
          (subst (λ (ps : List (NodeNo × Agg)). AreNew (class_now tree) (class_was tree) ps)
          (sym c.deref-2.ensures.value) c.in-Ok.ensures)
          (subst (λ (class : ℕ → Option defs.Agg). IsIndex class c.args.index.now) (sym b.was) b.indexed.classes);
      kinds = c.change.ensures.units ∙ b.indexed.kinds;
    }) c.change.ensures.classes
