use Rattle.cube_laws.proofs.RecodedLists.{classes-coded, covered-coded, lower_bounds-coded, nodes-coded}
use Rattle.cube_laws.proofs.recoding.lists_under_recoding.Goals as goal

pub returns-clause-covered : goal.returns-clause-covered
returns-clause-covered g c
    = λ known codes tells rows d h. covered-coded g.met.A.Ord.total g.met.A.Value.apart g.met.B.Ord.total
    g.met.B.Value.apart tells rows h d

pub returns-clause-upper_bounds : goal.returns-clause-upper_bounds
returns-clause-upper_bounds g c
    = λ known codes tells rows d h. classes-coded g.met.A.Ord.total g.met.A.Value.apart g.met.B.Ord.total
    g.met.B.Value.apart tells rows h d

pub returns-clause-nodes : goal.returns-clause-nodes
returns-clause-nodes g c
    = λ known codes tells rows d h. nodes-coded g.met.A.Ord.total g.met.A.Value.apart g.met.B.Ord.total
    g.met.B.Value.apart tells rows h d

pub returns-clause-lower_bounds : goal.returns-clause-lower_bounds
returns-clause-lower_bounds g c
    = λ known codes tells rows u d h k. lower_bounds-coded g.met.A.Ord.total g.met.A.Value.apart g.met.B.Ord.total
    g.met.B.Value.apart tells rows h u k d
