use Rattle.std.proofs.Common.{◌≡◌, ◌∙◌, ◌+◌, None, Option, Some, [], ap, refl, take, slice_get, sym, arith}
use Rattle.std.specs.FinMap as finmap
use Rattle.std.specs.List.{All}
use Rattle.std.specs.Option.{option_map}
use Rattle.std.proofs.lemmas.Option.{slice_get-get_or}
use Rattle.std.specs.Prelude.{IfSome}
use Rattle.aggregates.specs.Views.{IsThere, agg_in}
use Rattle.aggregates.specs.declared.agg.Agg.{Agg}
use Rattle.cube_laws.proofs.CallerLemmas.{get_among, map_among}
use Rattle.iceberg_query.proofs.CallerLemmas.{class_same}
use Rattle.measure_index.specs.Builder.{gathered_units}
use Rattle.qc_arena.specs.Changes.{AreNew, class_now}
use Rattle.qc_arena.specs.RecordReaders.{number}
use Rattle.warehouse.proofs.Indexed.{class-measured, index-made}
use Rattle.warehouse.proofs.ListedClasses.{IsBefore, all_listed, keys_few, marks_next, marks_of, next_before, next_class}
use Rattle.warehouse.proofs.ListedClasses.{none_before, none_listed, whole_before}
use Rattle.warehouse.proofs.indexing.index_of_listed.Goals as goal

pub places-init : goal.places-init
places-init g c = record {
  units = c.in-Ok.ensures.units;
  classes = (
    [],
    c.in-Ok.ensures.classes,
    none_listed (class_now c.args.tree.now) (IsBefore c.args.nodes.now.items 0) (none_before c.args.nodes.now.items),
    refl,
  );
  steps = omega arith;
  within = omega arith;
}

pub class-requires : goal.class-requires
class-requires g c =
    let nodes = c.args.nodes.now.items in
    let x = c.index-node.result.now in
    let at : slice_get nodes c.places.place ≡ Some x
    = slice_get-get_or nodes c.places.place x (omega (arith, c.places-test.true, c.len-place-end.ensures))
    ∙ ap (λ y. Some y) (sym c.index-node.ensures) in
    c.requires.nodes.there x.0 (map_among number x nodes (get_among nodes c.places.place x at))

pub push_class-requires : goal.push_class-requires
push_class-requires g c =
    let x = c.index-node.result.now in
    go c.class.result (c.class.ensures.value ∙ sym (class_same (finmap.get c.args.tree.now.now x.0)))
  where
    go : (o : Option Agg) → option_map agg_in o ≡ class_now c.args.tree.now c.index-node.result.now.0
        → IfSome o (λ class. All (λ unit. IsThere class.measures unit.0) (gathered_units c.places.filling))
    go None e = tt
    go (Some class) e = class-measured c.args.schema.now c.args.tree.now.now c.new_filling.ensures.layout c.requires.tree
        c.index-node.result.now.0 class (sym e) (gathered_units c.places.filling) c.places.invariant.units

pub finish-requires : goal.finish-requires
finish-requires g c =
    let was = c.places.invariant.classes in
    keys_few c.args.tree.now.now c.args.nodes.now.items c.places.place c.places.filling was.0 c.requires.nodes
    (omega (arith, c.places-test.false, c.len-place-end.ensures)) was.1 was.3 c.new_filling.ensures.few

pub places-preserved : goal.places-preserved
places-preserved g c =
    let nodes = c.args.nodes.now.items in
    let inv = c.places.invariant in
    let x = c.index-node.result.now in
    let at : slice_get nodes c.places.place ≡ Some x
    = slice_get-get_or nodes c.places.place x (omega (arith, c.places-test.true, c.len-place-end.ensures))
    ∙ ap (λ y. Some y) (sym c.index-node.ensures) in
    record {
      units = c.in-Ok-push_class.ensures.units ∙ inv.units;
      classes =
          let more = next_class (class_now c.args.tree.now) (IsBefore nodes c.places.place)
          (IsBefore nodes (c.places.place + 1)) x.0
          (next_before c.args.tree.now.now nodes c.places.place x c.requires.nodes at) c.places.filling
          c.push_class.new.filling (marks_of c.args.tree.now.now (take c.places.place nodes)) inv.classes c.class.result
          (c.class.ensures.value ∙ sym (class_same (finmap.get c.args.tree.now.now x.0)))
          c.in-Ok-push_class.ensures.classes in
          (more.0, more.1, more.2, more.3 ∙ sym (marks_next c.args.tree.now.now nodes c.places.place x at));
      steps = omega (arith, inv.steps, c.class.ensures.steps);
      within = omega (arith, c.places-test.true, c.len-place-end.ensures);
    }

pub returns-clause-index : goal.returns-clause-index
returns-clause-index g c =
    let class = class_now c.args.tree.now in
    let nodes = c.args.nodes.now.items in
    let pairs = c.places.invariant.classes.0 in
    let new : AreNew (λ _. None) class pairs
    = all_listed class (IsBefore nodes c.places.place) pairs c.places.invariant.classes.2
    (whole_before c.args.tree.now.now nodes c.places.place c.requires.nodes
    (omega (arith, c.places-test.false, c.len-place-end.ensures))) in
    index-made c.args.schema.now c.args.tree.now.now c.places.filling pairs c.places.invariant.classes.1 new
    c.places.invariant.units c.finish.result c.finish.ensures.units c.finish.ensures.classes
