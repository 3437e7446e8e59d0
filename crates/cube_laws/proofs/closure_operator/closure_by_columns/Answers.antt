use Rattle.cube_laws.proofs.Columns.{closure-column}
use Rattle.cube_laws.proofs.Orders.{equality_of}
use Rattle.cube_laws.proofs.closure_operator.closure_by_columns.Goals as goal

pub returns : goal.returns
returns g c = let law = equality_of g.met.V.Ord.total g.met.V.Value.apart g.met.V.Ord.matches_eq in
    closure-column law
