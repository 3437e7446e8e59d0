use Rattle.std.proofs.Common.{◌+◌, ◌*◌, ◌∙◌, ap, arith, length, sym}
use Rattle.std.specs.Option.{option_map}
use Rattle.aggregates.specs.Views.{agg_in}
use Rattle.qc_arena.specs.RecordReaders.{record_at}
use Rattle.batch_delete.specs.Plan.{prefix_labels, last_any_of}
use Rattle.batch_delete.proofs.Planning.{all_values, prefix_counted, prefix_there, no_twins, the_twins}
use Rattle.batch_delete.proofs.parts.class_after.Goals as goal
use Rattle.cube_laws.proofs.CallerLemmas.{times_mono}

pub all_parts-requires : goal.all_parts-requires
all_parts-requires g c κs within =
    let last = c.in-Some.ensures.some in
    (within, record { class = c.requires.1.class; last = last; planned = c.requires.1.planned c.in-Some.dim last.any })

pub returns-in-Some-clause-steps : goal.returns-in-Some-clause-steps
returns-in-Some-clause-steps g c = λ list are.
    let a = c.args.row.now.arena.now in
    let u = c.args.below.now.cell in
    let row = c.requires.1.class.gone in
    let class = c.requires.1.class.class.class in
    let front = prefix_there a.width a.now g.d c.requires.1.class.gone.tree c.args.row.now.tuple.now c.requires.1.class.gone.long
    row.tuple u c.requires.1.class.class.long class.below class.own c.in-Some.dim in
    let counted = prefix_counted a.width a.now g.d c.requires.1.class.gone.tree c.args.row.now.tuple.now c.requires.1.class.gone.long
    row.tuple u c.requires.1.class.class.long class.below list are c.in-Some.dim c.in-Some.ensures.some front.0 front.1 in
    let more = times_mono (4 * length u + 7) (length (record_at a.now front.0).edges)
    (prefix_labels a.now list u (last_any_of u)) counted in
    let took = c.all_parts.ensures.steps front.0 front.1 in
    omega arith

pub returns-in-None-duplicates-clause-rest : goal.returns-in-None-duplicates-clause-rest
returns-in-None-duplicates-clause-rest g c =
    let a = c.args.row.now.arena.now in
    let u = c.args.below.now.cell in
    let row = c.requires.1.class.gone in
    let class = c.requires.1.class.class.class in
    let same = all_values a.width a.now g.d c.requires.1.class.gone.tree c.args.row.now.tuple.now c.requires.1.class.gone.long row.tuple u
    c.requires.1.class.class.long class.below c.in-None.ensures.none in
    no_twins a.width a.now g.d c.requires.1.class.gone.tree c.args.row.now.tuple.now c.requires.1.class.gone.long row.tuple u
    c.requires.1.class.class.long class.below same (sym (ap (option_map agg_in) c.in-None-duplicates.is) ∙ row.duplicates)

pub returns-in-Some-duplicates-clause-rest : goal.returns-in-Some-duplicates-clause-rest
returns-in-Some-duplicates-clause-rest g c =
    let a = c.args.row.now.arena.now in
    let u = c.args.below.now.cell in
    let row = c.requires.1.class.gone in
    let class = c.requires.1.class.class.class in
    let same = all_values a.width a.now g.d c.requires.1.class.gone.tree c.args.row.now.tuple.now c.requires.1.class.gone.long row.tuple u
    c.requires.1.class.class.long class.below c.in-None.ensures.none in
    the_twins a.width a.now g.d c.requires.1.class.gone.tree c.args.row.now.tuple.now c.requires.1.class.gone.long row.tuple u
    c.requires.1.class.class.long class.below same c.in-Some-duplicates.agg
    (sym (ap (option_map agg_in) c.in-Some-duplicates.is) ∙ row.duplicates) _ c.copy.ensures.value
