use Rattle.cube_laws.proofs.Closures.{agg_same, cov_same}
use Rattle.cube_laws.proofs.Orders.{equality_of}
use Rattle.cube_laws.proofs.closure_operator.one_closure_is_one_answer.Goals as goal

pub returns-clause-rows : goal.returns-clause-rows
returns-clause-rows g c = let law = equality_of g.met.V.Ord.total g.met.V.Value.apart g.met.V.Ord.matches_eq in
    λ rows c' d u e f. cov_same law rows c' d u e f

pub returns-clause-aggregates : goal.returns-clause-aggregates
returns-clause-aggregates g c = let law = equality_of g.met.V.Ord.total g.met.V.Value.apart g.met.V.Ord.matches_eq in
    agg_same law
