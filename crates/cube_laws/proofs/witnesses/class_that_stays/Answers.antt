use Rattle.cube_laws.proofs.Lists.{all_from}
use Rattle.cube_laws.proofs.Orders.{equality_of}
use Rattle.cube_laws.proofs.Witness.{unchanged}
use Rattle.std.proofs.Common.{◌++◌, ◌∷◌}
use Rattle.cube_laws.proofs.witnesses.class_that_stays.Goals as goal

pub returns : goal.returns
returns g c = let law = equality_of g.met.V.Ord.total g.met.V.Value.apart g.met.V.Ord.matches_eq in
    λ n xs ys r u c' z long e h up apart f none. unchanged law xs r ys n u c' z (all_from _ (xs ++ r ∷ ys) long) e h
    up apart f none
