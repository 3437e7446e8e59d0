use Rattle.tree_laws.proofs.SameRecords.{record-reordered, canonical-reordered}
use Rattle.tree_laws.proofs.same_rows.rows_in_any_order.Goals as goal

pub returns-clause-records : goal.returns-clause-records
returns-clause-records g c =
    λ measures rows more p h. record-reordered g.met.V.Ord.total g.met.V.Value.apart measures rows more h p

pub returns-clause-trees : goal.returns-clause-trees
returns-clause-trees g c =
    λ measures rows more tree h. canonical-reordered g.met.V.Ord.total g.met.V.Value.apart measures rows more h tree
