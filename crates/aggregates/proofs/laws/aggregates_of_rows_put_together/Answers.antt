use Rattle.aggregates.proofs.Together.{agg_of-append, agg_of-one}
use Rattle.aggregates.proofs.laws.aggregates_of_rows_put_together.Goals as goal

pub returns-clause-one : goal.returns-clause-one
returns-clause-one g c = agg_of-one

pub returns-clause-combined : goal.returns-clause-combined
returns-clause-combined g c = agg_of-append
