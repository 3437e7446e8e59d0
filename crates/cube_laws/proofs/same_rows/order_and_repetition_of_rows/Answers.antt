use Rattle.cube_laws.proofs.Orders.{equality_of}
use Rattle.cube_laws.proofs.SameRows.{class_by_tuples, closure_by_tuples, node_by_tuples}
use Rattle.cube_laws.proofs.same_rows.order_and_repetition_of_rows.Goals as goal

pub returns-clause-closures : goal.returns-clause-closures
returns-clause-closures g c = let law = equality_of g.met.V.Ord.total g.met.V.Value.apart g.met.V.Ord.matches_eq in
    λ rows more c' f g. closure_by_tuples law rows more f g c'

pub returns-clause-classes : goal.returns-clause-classes
returns-clause-classes g c = let law = equality_of g.met.V.Ord.total g.met.V.Value.apart g.met.V.Ord.matches_eq in
    λ rows more u f g. class_by_tuples law rows more f g u

pub returns-clause-nodes : goal.returns-clause-nodes
returns-clause-nodes g c = let law = equality_of g.met.V.Ord.total g.met.V.Value.apart g.met.V.Ord.matches_eq in
    λ rows more p f g. node_by_tuples law rows more f g p
