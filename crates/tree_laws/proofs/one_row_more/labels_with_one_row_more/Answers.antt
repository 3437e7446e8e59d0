use Rattle.cube_laws.proofs.CallerLemmas.{equality_by}
use Rattle.tree_laws.proofs.Leads.{lead_other, lead_own}
use Rattle.tree_laws.proofs.one_row_more.labels_with_one_row_more.Goals as goal

pub returns-clause-other : goal.returns-clause-other
returns-clause-other g c =
    λ xs ys r p i v k d l other. lead_other (equality_by g.met.V.Ord.total g.met.V.Value.apart) xs r ys p
    i v k d l other

pub returns-clause-own : goal.returns-clause-own
returns-clause-own g c =
    λ xs ys r p i v k d l own. lead_own (equality_by g.met.V.Ord.total g.met.V.Value.apart) xs r ys p i v k d l own
