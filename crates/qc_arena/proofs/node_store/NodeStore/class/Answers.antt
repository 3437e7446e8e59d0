use Rattle.std.proofs.Common.{◌∙◌, List, Option, Some, ap, map, subst, sym, take}
use Rattle.slab.specs.Slab as slots
use Rattle.cube_defs.specs.Rows as defs
use Rattle.aggregates.specs.declared.agg.Part.{Part}
use Rattle.aggregates.specs.Bounds.{IsAggregate}
use Rattle.aggregates.specs.Views.{part_in}
use Rattle.qc_arena.specs.Inside.{join}
use Rattle.qc_arena.specs.Map.{Known}
use Rattle.qc_arena.specs.Parts.{shown}
use Rattle.qc_arena.specs.RecordReaders.{record_or}
use Rattle.qc_arena.proofs.Shown.{shown_is, shown_range}
use Rattle.qc_arena.proofs.Stored.{stored_seen}
use Rattle.qc_arena.proofs.node_store.NodeStore.class.Goals as goal

pub invariant_of-result : goal.invariant_of-result
invariant_of-result c =
    let m = c.self.inside in
    let is = ap (λ (n : Known). n.class) c.record.ensures
    ∙ ap (λ (s : slots.Slab (Option Known)). (record_or (join (slots.get s c.args.node))).class) c.self.view_is in
    let at = shown m.parts c.args.node in
    let shows = stored_seen m.records c.args.self.now m.parts c.args.node c.record.result.now.node.class
    c.self.invariant c.self.view_is c.requires is in
    record {
      in_range = subst (λ (ps : List Part). IsAggregate c.in-Some.count c.in-Some.measures ps) (sym c.at.ensures)
          (shown_range at c.record.result.now.node.class c.in-Some.count c.in-Some.measures shows
          c.in-Some.ensures.count c.in-Some.ensures.measures);
    }

pub returns-in-Some : goal.returns-in-Some
returns-in-Some c =
    let m = c.self.inside in
    let is = ap (λ (n : Known). n.class) c.record.ensures
    ∙ ap (λ (s : slots.Slab (Option Known)). (record_or (join (slots.get s c.args.node))).class) c.self.view_is in
    let at = shown m.parts c.args.node in
    let shows = stored_seen m.records c.args.self.now m.parts c.args.node c.record.result.now.node.class
    c.self.invariant c.self.view_is c.requires is in
    ap (λ (ps : List Part). let a : defs.Agg
    = record { count = c.in-Some.count; parts = map part_in (take c.in-Some.measures ps) } in Some a) c.at.ensures
    ∙ shown_is at c.record.result.now.node.class c.in-Some.count c.in-Some.measures shows c.in-Some.ensures.count
    c.in-Some.ensures.measures
    ∙ is
