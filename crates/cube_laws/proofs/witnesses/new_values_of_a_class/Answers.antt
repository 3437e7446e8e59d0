use Rattle.cube_laws.proofs.Orders.{equality_of}
use Rattle.cube_laws.proofs.Partition.{has_same}
use Rattle.cube_laws.proofs.Witness.{count_decides_before, own_is_gone, ruled_out, witness}
use Rattle.cube_laws.proofs.witnesses.new_values_of_a_class.Goals as goal

pub returns-clause-from_a_witness : goal.returns-clause-from_a_witness
returns-clause-from_a_witness g c = let law
    = equality_of g.met.V.Ord.total g.met.V.Value.apart g.met.V.Ord.matches_eq in
    λ xs ys r u c' z w k v up apart e f h. witness law xs r ys u c' z w k v up apart e f h

pub returns-clause-not_the_own : goal.returns-clause-not_the_own
returns-clause-not_the_own g c = let law = equality_of g.met.V.Ord.total g.met.V.Value.apart g.met.V.Ord.matches_eq in
    λ xs ys r u w k v e free h f h2. own_is_gone law xs r ys u w k v e free h f h2

pub returns-clause-by_counts : goal.returns-clause-by_counts
returns-clause-by_counts g c = let law = equality_of g.met.V.Ord.total g.met.V.Value.apart g.met.V.Ord.matches_eq in
    λ xs ys r u w k v free h apart e. count_decides_before law xs r ys u w k v free h apart e

pub returns-clause-ruled_out : goal.returns-clause-ruled_out
returns-clause-ruled_out g c = let law = equality_of g.met.V.Ord.total g.met.V.Value.apart g.met.V.Ord.matches_eq in
    λ xs ys r u w d k v t e free h f h2 own up. ruled_out law xs r ys u w d k v t e free h f h2
    (has_same law k t r own) up
