use Rattle.cube_laws.proofs.CallerLemmas.{equality_by}
use Rattle.tree_laws.proofs.Leads.{lead_less, lead_none}
use Rattle.tree_laws.proofs.one_row_more.labels_with_one_row_less.Goals as goal

pub returns-clause-leads : goal.returns-clause-leads
returns-clause-leads g c =
    λ xs ys r p c' i v d l h. lead_less (equality_by g.met.V.Ord.total g.met.V.Value.apart) xs r ys p c' i v d l h

pub returns-clause-none : goal.returns-clause-none
returns-clause-none g c
    = λ xs ys r p i v h. lead_none (equality_by g.met.V.Ord.total g.met.V.Value.apart) xs r ys p i v h
