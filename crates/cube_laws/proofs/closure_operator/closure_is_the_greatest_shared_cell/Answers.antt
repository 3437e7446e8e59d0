use Rattle.cube_laws.proofs.Columns.{closure_below_rows, closure_greatest}
use Rattle.cube_laws.proofs.Orders.{equality_of}
use Rattle.cube_laws.proofs.closure_operator.closure_is_the_greatest_shared_cell.Goals as goal

pub returns-clause-shared : goal.returns-clause-shared
returns-clause-shared g c = let law = equality_of g.met.V.Ord.total g.met.V.Value.apart g.met.V.Ord.matches_eq in
    closure_below_rows law

pub returns-clause-greatest : goal.returns-clause-greatest
returns-clause-greatest g c = let law = equality_of g.met.V.Ord.total g.met.V.Value.apart g.met.V.Ord.matches_eq in
    closure_greatest law
