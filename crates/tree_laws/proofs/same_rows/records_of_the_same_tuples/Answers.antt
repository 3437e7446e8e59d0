use Rattle.tree_laws.proofs.SameRecords.{shape_by_tuples, record_by_tuples}
use Rattle.tree_laws.proofs.same_rows.records_of_the_same_tuples.Goals as goal

pub returns-clause-shapes : goal.returns-clause-shapes
returns-clause-shapes g c =
    λ measures rows more p f h. shape_by_tuples g.met.V.Ord.total g.met.V.Value.apart measures rows more f h p

pub returns-clause-records : goal.returns-clause-records
returns-clause-records g c =
    λ measures rows more p f h same. record_by_tuples g.met.V.Ord.total g.met.V.Value.apart measures rows
    more f h p same
