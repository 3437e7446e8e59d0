use Rattle.std.proofs.Common.{sym, ap, ◌∙◌}
use Rattle.std.specs.Option.{option_map}
use Rattle.aggregates.specs.Views.{agg_in}
use Rattle.iceberg_query.proofs.CallerLemmas.{measure_read}
use Rattle.quotient_lattice.proofs.rolling.wants.Goals as goal

pub passes-requires : goal.passes-requires
passes-requires g c =
    let selection = c.args.selection.now in
    measure_read _ selection.ask.now.kind selection.measured c.args.node.0 c.unwrap-total.result
    (ap (option_map agg_in) (sym c.unwrap-total.ensures) ∙ c.class.ensures.value)
