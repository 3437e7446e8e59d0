use Rattle.cube_laws.proofs.OneRow.{greatest-insert, greatest_left, least-insert, least_left, sum-insert, sum_left}
use Rattle.cube_laws.proofs.Orders.{equality_of}
use Rattle.std.proofs.Common.{pos, slice_index_or}
use Rattle.cube_laws.proofs.one_row_more.measures_with_one_row_less.Goals as goal

pub returns-clause-sum : goal.returns-clause-sum
returns-clause-sum g c = let law = equality_of g.met.V.Ord.total g.met.V.Value.apart g.met.V.Ord.matches_eq in
    λ measures m xs ys r c' u l h e. sum_left _ _ _ (sum-insert law xs r ys measures m c' u l h e)

pub returns-clause-least : goal.returns-clause-least
returns-clause-least g c = let law = equality_of g.met.V.Ord.total g.met.V.Value.apart g.met.V.Ord.matches_eq in
    λ measures m xs ys r c' u l h e apart. least_left (slice_index_or r.amounts m (pos 0)) _ _
    (least-insert law xs r ys measures m c' u l h e) apart

pub returns-clause-greatest : goal.returns-clause-greatest
returns-clause-greatest g c = let law = equality_of g.met.V.Ord.total g.met.V.Value.apart g.met.V.Ord.matches_eq in
    λ measures m xs ys r c' u l h e apart. greatest_left (slice_index_or r.amounts m (pos 0)) _ _
    (greatest-insert law xs r ys measures m c' u l h e) apart
