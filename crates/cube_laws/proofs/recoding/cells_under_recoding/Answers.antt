use Rattle.cube_laws.proofs.Orders.{equality_of}
use Rattle.cube_laws.proofs.Recoded.{coded-apart, leq-coded, meet-coded}
use Rattle.cube_laws.proofs.recoding.cells_under_recoding.Goals as goal

pub returns-clause-order : goal.returns-clause-order
returns-clause-order g c = let law_a = equality_of g.met.A.Ord.total g.met.A.Value.apart g.met.A.Ord.matches_eq in
    let law_b = equality_of g.met.B.Ord.total g.met.B.Value.apart g.met.B.Ord.matches_eq in
    λ known codes tells c' d h k. leq-coded law_a law_b tells 0 c' d h k

pub returns-clause-meet : goal.returns-clause-meet
returns-clause-meet g c = let law_a = equality_of g.met.A.Ord.total g.met.A.Value.apart g.met.A.Ord.matches_eq in
    let law_b = equality_of g.met.B.Ord.total g.met.B.Value.apart g.met.B.Ord.matches_eq in
    λ known codes tells c' d h k. meet-coded law_a law_b tells 0 c' d h k

pub returns-clause-apart : goal.returns-clause-apart
returns-clause-apart g c = let law_a = equality_of g.met.A.Ord.total g.met.A.Value.apart g.met.A.Ord.matches_eq in
    let law_b = equality_of g.met.B.Ord.total g.met.B.Value.apart g.met.B.Ord.matches_eq in
    λ known codes tells c' d h k. coded-apart law_a law_b tells c' d h k
