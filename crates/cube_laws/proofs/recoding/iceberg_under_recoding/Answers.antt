use Rattle.cube_laws.proofs.Icebergs.{iceberg-coded, iceberg-decoded}
use Rattle.cube_laws.proofs.recoding.iceberg_under_recoding.Goals as goal

pub returns-clause-no_more : goal.returns-clause-no_more
returns-clause-no_more g c
    = λ known codes tells measures rows ask hit h. iceberg-decoded g.met.A.Ord.total g.met.A.Value.apart
    g.met.B.Ord.total g.met.B.Value.apart tells rows h measures ask hit

pub returns-clause-no_less : goal.returns-clause-no_less
returns-clause-no_less g c
    = λ known codes tells measures rows ask found h. iceberg-coded g.met.A.Ord.total g.met.A.Value.apart
    g.met.B.Ord.total g.met.B.Value.apart tells rows h measures ask found
