use Rattle.std.proofs.Common.{◌∙◌, Some, ap, arith, sym}
use Rattle.std.specs.Option.{option_map}
use Rattle.aggregates.specs.declared.agg.Agg.{Agg}
use Rattle.aggregates.specs.Views.{agg_in}
use Rattle.cube_laws.specs.Total.{join_aggs}
use Rattle.batch_delete.proofs.WithoutRow.{few_both, left_of, twins_long}
use Rattle.batch_delete.proofs.Settling.{if_some}
use Rattle.batch_delete.proofs.subtracting.agg_without_row.Goals as goal

pub add_twins-requires-clause-parts : goal.add_twins-requires-clause-parts
add_twins-requires-clause-parts g c =
    let row = c.args.row.now in
    let is = left_of g.d row c.args.cell.now c.args.whole.now c.args.gone.now c.without_part-agg.result c.requires.0
    c.requires.1.0 c.requires.1.1.0 c.requires.1.1.1.0 c.requires.1.1.1.1.more c.without_part-agg.ensures in
    if_some _ row.duplicates (λ (agg : Agg) some. is.0
    ∙ sym (twins_long g.d row.tuple.now (agg_in agg) (sym c.requires.0.duplicates ∙ ap (option_map agg_in) some)))

pub add_twins-requires-clause-few : goal.add_twins-requires-clause-few
add_twins-requires-clause-few g c =
    let row = c.args.row.now in
    let is = left_of g.d row c.args.cell.now c.args.whole.now c.args.gone.now c.without_part-agg.result c.requires.0
    c.requires.1.0 c.requires.1.1.0 c.requires.1.1.1.0 c.requires.1.1.1.1.more c.without_part-agg.ensures in
    let few = c.requires.0.few in
    if_some _ row.duplicates (λ (agg : Agg) some.
    let both = few_both g.d c.args.cell.now (agg_in agg) (agg_in c.without_part-agg.result) _
    (sym c.requires.0.duplicates ∙ ap (option_map agg_in) some) is.1 in
    omega arith)

pub returns : goal.returns
returns g c =
    let is = left_of g.d c.args.row.now c.args.cell.now c.args.whole.now c.args.gone.now c.without_part-agg.result
    c.requires.0 c.requires.1.0 c.requires.1.1.0 c.requires.1.1.1.0 c.requires.1.1.1.1.more
    c.without_part-agg.ensures in
    c.add_twins.ensures ∙ ap (λ o. join_aggs o (Some (agg_in c.without_part-agg.result))) c.requires.0.duplicates
    ∙ sym is.1
