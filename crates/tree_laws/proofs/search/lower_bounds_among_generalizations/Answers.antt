use Rattle.tree_laws.proofs.LowerBounds.{lower_bounds-below, below-is}
use Rattle.tree_laws.proofs.search.lower_bounds_among_generalizations.Goals as goal

pub returns-clause-bounds : goal.returns-clause-bounds
returns-clause-bounds g c =
    λ dims rows u wide long. lower_bounds-below g.met.V.Ord.total g.met.V.Value.apart dims rows u wide long

pub returns-clause-below : goal.returns-clause-below
returns-clause-below g c = λ c' u. below-is g.met.V.Ord.total g.met.V.Value.apart c' u
