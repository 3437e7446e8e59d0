use Rattle.cube_laws.proofs.CallerLemmas.{equality_by}
use Rattle.tree_laws.proofs.Apart.{record_stays}
use Rattle.tree_laws.proofs.apart_from_a_row.record_apart_from_a_row_stays.Goals as goal

pub returns : goal.returns
returns g c =
    λ measures xs ys r p h. record_stays _ (equality_by g.met.V.Ord.total g.met.V.Value.apart) measures xs r ys p h
