use Rattle.cube_laws.proofs.Orders.{equality_of}
use Rattle.cube_laws.proofs.Recoded.{closure-coded}
use Rattle.cube_laws.proofs.RecodedRows.{agg-coded, cov-coded}
use Rattle.cube_laws.proofs.recoding.closure_under_recoding.Goals as goal

pub returns-clause-rows : goal.returns-clause-rows
returns-clause-rows g c = let law_a = equality_of g.met.A.Ord.total g.met.A.Value.apart g.met.A.Ord.matches_eq in
    let law_b = equality_of g.met.B.Ord.total g.met.B.Value.apart g.met.B.Ord.matches_eq in
    λ known codes tells rows c' h k. cov-coded law_a law_b tells rows c' h k

pub returns-clause-closure : goal.returns-clause-closure
returns-clause-closure g c = let law_a = equality_of g.met.A.Ord.total g.met.A.Value.apart g.met.A.Ord.matches_eq in
    let law_b = equality_of g.met.B.Ord.total g.met.B.Value.apart g.met.B.Ord.matches_eq in
    λ known codes tells rows c' h k. closure-coded law_a law_b tells rows c' h k

pub returns-clause-aggregate : goal.returns-clause-aggregate
returns-clause-aggregate g c = let law_a = equality_of g.met.A.Ord.total g.met.A.Value.apart g.met.A.Ord.matches_eq in
    let law_b = equality_of g.met.B.Ord.total g.met.B.Value.apart g.met.B.Ord.matches_eq in
    λ known codes tells measures rows c' h k. agg-coded law_a law_b tells rows h measures c' k
