use Rattle.cube_laws.proofs.RecodedLists.{range-coded}
use Rattle.cube_laws.proofs.recoding.range_under_recoding.Goals as goal

pub returns : goal.returns
returns g c = λ known codes tells measures rows box hit h k. range-coded g.met.A.Ord.total g.met.A.Value.apart
    g.met.B.Ord.total g.met.B.Value.apart tells rows h measures box k hit
