use Rattle.std.proofs.Common.{ap, sym, ◌∙◌}
use Rattle.std.specs.Option.{option_map}
use Rattle.aggregates.specs.Views.{agg_in}
use Rattle.iceberg_query.proofs.Bounded.{steps_within}
use Rattle.iceberg_query.proofs.Measured.{measure_read}
use Rattle.iceberg_query.proofs.hits.value_at.Goals as goal

pub returns-in-Err-clause-steps : goal.returns-in-Err-clause-steps
returns-in-Err-clause-steps g c
    = steps_within _ _ c.dims.ensures.rows.0 c.dims.ensures.rows.1 c.args.node.0 _ _ _ _ _ c.requires
    (c.any-upper.ensures.dims ∙ c.dims.ensures.value) c.upper_into.ensures.steps c.class.ensures.steps
    c.lower_bounds.ensures.steps

pub returns-in-Ok-clause-steps : goal.returns-in-Ok-clause-steps
returns-in-Ok-clause-steps g c
    = steps_within _ _ c.dims.ensures.rows.0 c.dims.ensures.rows.1 c.args.node.0 _ _ _ _ _ c.requires
    (c.any-upper.ensures.dims ∙ c.dims.ensures.value) c.upper_into.ensures.steps c.class.ensures.steps
    c.lower_bounds.ensures.steps

pub value_of-requires-clause-there : goal.value_of-requires-clause-there
value_of-requires-clause-there g c =
    let selection = c.args.selection.now in
    measure_read _ selection.ask.now.kind selection.measured c.args.node.0 c.unwrap-total.result
    (ap (option_map agg_in) (sym c.unwrap-total.ensures) ∙ c.class.ensures.value)
