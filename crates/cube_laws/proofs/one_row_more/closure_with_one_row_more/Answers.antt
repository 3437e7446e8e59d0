use Rattle.cube_laws.proofs.OneRow.{closure-insert_alone, closure-insert_more, closure_stays}
use Rattle.cube_laws.proofs.Orders.{equality_of}
use Rattle.cube_laws.proofs.one_row_more.closure_with_one_row_more.Goals as goal

pub returns-clause-apart : goal.returns-clause-apart
returns-clause-apart g c = let law = equality_of g.met.V.Ord.total g.met.V.Value.apart g.met.V.Ord.matches_eq in
    λ xs ys r c' h. closure_stays law xs r ys c' h

pub returns-clause-alone : goal.returns-clause-alone
returns-clause-alone g c = let law = equality_of g.met.V.Ord.total g.met.V.Value.apart g.met.V.Ord.matches_eq in
    λ xs ys r c' h e. closure-insert_alone law xs r ys c' h e

pub returns-clause-with_others : goal.returns-clause-with_others
returns-clause-with_others g c = let law = equality_of g.met.V.Ord.total g.met.V.Value.apart g.met.V.Ord.matches_eq in
    λ xs ys r c' u h e. closure-insert_more law xs r ys c' u h e
