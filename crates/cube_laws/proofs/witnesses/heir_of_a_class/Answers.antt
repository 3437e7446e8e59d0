use Rattle.cube_laws.proofs.Orders.{equality_of}
use Rattle.cube_laws.proofs.Witness.{heir_agg, heir_closure}
use Rattle.cube_laws.proofs.witnesses.heir_of_a_class.Goals as goal

pub returns-clause-closure : goal.returns-clause-closure
returns-clause-closure g c = let law = equality_of g.met.V.Ord.total g.met.V.Value.apart g.met.V.Ord.matches_eq in
    λ xs ys r u c' h up apart one. heir_closure law xs r ys u c' h up apart one

pub returns-clause-aggregate : goal.returns-clause-aggregate
returns-clause-aggregate g c = let law = equality_of g.met.V.Ord.total g.met.V.Value.apart g.met.V.Ord.matches_eq in
    λ measures xs ys r u c' h up apart one. heir_agg law xs r ys measures u c' h up apart one
