use Rattle.cube_laws.proofs.Orders.{equality_of}
use Rattle.cube_laws.proofs.RecodedRows.{is_class-coded, is_lower_bound-coded, is_node-coded}
use Rattle.cube_laws.proofs.recoding.classes_under_recoding.Goals as goal

pub returns-clause-upper_bound : goal.returns-clause-upper_bound
returns-clause-upper_bound g c = let law_a = equality_of g.met.A.Ord.total g.met.A.Value.apart g.met.A.Ord.matches_eq in
    let law_b = equality_of g.met.B.Ord.total g.met.B.Value.apart g.met.B.Ord.matches_eq in
    λ known codes tells rows u h k. is_class-coded law_a law_b tells rows h u k

pub returns-clause-node : goal.returns-clause-node
returns-clause-node g c = let law_a = equality_of g.met.A.Ord.total g.met.A.Value.apart g.met.A.Ord.matches_eq in
    let law_b = equality_of g.met.B.Ord.total g.met.B.Value.apart g.met.B.Ord.matches_eq in
    λ known codes tells rows p h k. is_node-coded law_a law_b tells rows h p k

pub returns-clause-lower_bound : goal.returns-clause-lower_bound
returns-clause-lower_bound g c = let law_a = equality_of g.met.A.Ord.total g.met.A.Value.apart g.met.A.Ord.matches_eq in
    let law_b = equality_of g.met.B.Ord.total g.met.B.Value.apart g.met.B.Ord.matches_eq in
    λ known codes tells rows u c' h k l. is_lower_bound-coded law_a law_b tells rows h u c' k l
