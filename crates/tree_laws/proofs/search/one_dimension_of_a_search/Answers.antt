use Rattle.tree_laws.proofs.Walks.{walk_step}
use Rattle.tree_laws.proofs.search.one_dimension_of_a_search.Goals as goal

pub returns : goal.returns
returns g c =
    λ dims measures rows tree k n c' i a wide canonical long q l h at. walk_step g.met.V.Ord.total g.met.V.Value.apart
    dims measures rows wide tree canonical k n c' i a long q l h at
