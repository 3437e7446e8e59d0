use Rattle.cube_laws.proofs.OneRow.{count-insert, greatest-insert, least-insert, sum-insert}
use Rattle.cube_laws.proofs.Orders.{equality_of}
use Rattle.cube_laws.proofs.one_row_more.measures_with_one_row_more.Goals as goal

pub returns-clause-count : goal.returns-clause-count
returns-clause-count g c = let law = equality_of g.met.V.Ord.total g.met.V.Value.apart g.met.V.Ord.matches_eq in
    λ measures xs ys r c' h. count-insert law xs r ys measures c' h

pub returns-clause-sum : goal.returns-clause-sum
returns-clause-sum g c = let law = equality_of g.met.V.Ord.total g.met.V.Value.apart g.met.V.Ord.matches_eq in
    λ measures m xs ys r c' u l h e. sum-insert law xs r ys measures m c' u l h e

pub returns-clause-least : goal.returns-clause-least
returns-clause-least g c = let law = equality_of g.met.V.Ord.total g.met.V.Value.apart g.met.V.Ord.matches_eq in
    λ measures m xs ys r c' u l h e. least-insert law xs r ys measures m c' u l h e

pub returns-clause-greatest : goal.returns-clause-greatest
returns-clause-greatest g c = let law = equality_of g.met.V.Ord.total g.met.V.Value.apart g.met.V.Ord.matches_eq in
    λ measures m xs ys r c' u l h e. greatest-insert law xs r ys measures m c' u l h e
