use Rattle.tree_laws.proofs.LowersRecoded.{lowers-coded}
use Rattle.tree_laws.proofs.recoding.lower_bounds_under_recoding.Goals as goal

pub returns : goal.returns
returns g c =
    λ known codes tells dims rows u h wide is_known long.
    lowers-coded g.met.A.Ord.total g.met.A.Value.apart g.met.B.Ord.total g.met.B.Value.apart tells dims rows h wide
    u is_known long
