use Rattle.cube_laws.proofs.Orders.{equality_of}
use Rattle.cube_laws.proofs.RecodedLists.{known-closed, known_box-known, range-known}
use Rattle.cube_laws.proofs.recoding.unknown_values_cover_nothing.Goals as goal

pub returns-clause-cells : goal.returns-clause-cells
returns-clause-cells g c = let law_a = equality_of g.met.A.Ord.total g.met.A.Value.apart g.met.A.Ord.matches_eq in
    λ known rows c' u h e. known-closed law_a known rows c' u h e

pub returns-clause-boxes : goal.returns-clause-boxes
returns-clause-boxes g c
    = λ known measures rows box h. range-known g.met.A.Ord.total g.met.A.Value.apart known rows h measures box

pub returns-clause-known : goal.returns-clause-known
returns-clause-known g c = let law_a = equality_of g.met.A.Ord.total g.met.A.Value.apart g.met.A.Ord.matches_eq in
    λ known box. known_box-known law_a known 0 box
