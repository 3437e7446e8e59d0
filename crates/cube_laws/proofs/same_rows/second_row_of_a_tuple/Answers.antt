use Rattle.cube_laws.proofs.Orders.{equality_of}
use Rattle.cube_laws.proofs.SameRows.{twin_closure}
use Rattle.cube_laws.proofs.same_rows.second_row_of_a_tuple.Goals as goal

pub returns : goal.returns
returns g c = let law = equality_of g.met.V.Ord.total g.met.V.Value.apart g.met.V.Ord.matches_eq in
    λ xs ys r s c' m same. twin_closure law xs r ys s m same c'
