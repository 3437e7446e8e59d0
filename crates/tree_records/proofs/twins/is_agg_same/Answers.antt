use Rattle.std.proofs.Common.{◌≡◌, ◌∙◌, ap, map, sym, take}
use Rattle.std.proofs.lemmas.List.{take-map}
use Rattle.aggregates.specs.Views.{part_in}
use Rattle.tree_records.proofs.twins.is_agg_same.Goals as goal

pub returns : goal.returns
returns c = λ h.
    let agg = c.args.agg.now in
    let own = c.args.own.now in
    let parts : map part_in (take agg.measures agg.parts) ≡ map part_in (take own.measures own.parts)
    = sym (take-map part_in agg.measures agg.parts) ∙ ap (take agg.measures) (c.are_parts_same.ensures h)
    ∙ take-map part_in agg.measures own.parts ∙ ap (λ m. map part_in (take m own.parts)) c.if-agg-own-2.false in
    λ j. record { count = c.if-agg-own.false j; parts = parts j }
