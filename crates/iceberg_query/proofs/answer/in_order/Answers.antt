use Rattle.std.proofs.lemmas.Result.{IfOk-weaker}
use Rattle.iceberg_query.proofs.DecodedClasses.{hits_count, iceberg_is_told, iceberg_told}
use Rattle.std.proofs.lemmas.List.Sorted.{length_permutation}
use Rattle.iceberg_query.proofs.Picks.{picked_classes}
use Rattle.iceberg_query.proofs.answer.in_order.Goals as goal

pub values_at-requires : goal.values_at-requires
values_at-requires g c = picked_classes _ c.args.selection.now.ask.now _ c.requires.picked

pub returns-in-Ok-sort-clause-classes : goal.returns-in-Ok-sort-clause-classes
returns-in-Ok-sort-clause-classes g c = λ source h known.
    IfOk-weaker c.without_values.result _ _
    (λ hits e. iceberg_told _ _ c.args.dict.now c.args.selection.now.ask.now source h c.requires.dictionary known _ c.requires.picked
    c.requires.dims c.in-Ok.values.items c.sort.new.values.items hits.items
    (c.in-Ok.ensures.hits source h) c.in-Ok.ensures.values c.in-Ok-sort.ensures.same c.in-Ok-sort.ensures.sorted e)
    c.without_values.ensures

pub returns-in-Ok-sort-clause-count : goal.returns-in-Ok-sort-clause-count
returns-in-Ok-sort-clause-count g c =
    IfOk-weaker c.without_values.result _ _
    (λ hits e. hits_count c.dims-dims.ensures.rows.0 _ c.in-Ok.values.items c.sort.new.values.items hits.items c.args.nodes.now
    (c.in-Ok.ensures.hits c.dims-dims.ensures.rows.0 c.dims-dims.ensures.rows.1)
    (length_permutation c.in-Ok.values.items c.sort.new.values.items c.in-Ok-sort.ensures.same) e)
    c.without_values.ensures

pub returns-in-Ok-sort-clause-told : goal.returns-in-Ok-sort-clause-told
returns-in-Ok-sort-clause-told g c = λ source h known.
    IfOk-weaker c.without_values.result _ _
    (λ hits e. iceberg_is_told _ _ c.args.dict.now c.args.selection.now.ask.now source h c.requires.dictionary known _
    c.requires.picked c.requires.dims c.in-Ok.values.items c.sort.new.values.items hits.items
    (c.in-Ok.ensures.hits source h) c.in-Ok-sort.ensures.same e)
    c.without_values.ensures
