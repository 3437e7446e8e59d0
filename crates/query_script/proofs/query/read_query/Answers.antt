use Rattle.std.proofs.Common.{refl}
use Rattle.query_script.proofs.Wanting.{if_refused}
use Rattle.query_script.proofs.query.read_query.Goals as goal

pub returns-in-iceberg : goal.returns-in-iceberg
returns-in-iceberg c = rw c.in-iceberg.is
    (record { gives = c.read_iceberg.ensures; memory = if_refused c.read_iceberg.result _ _ refl })

pub returns-in-rollup : goal.returns-in-rollup
returns-in-rollup c = rw c.in-rollup.is
    (record { gives = c.read_rollup.ensures; memory = if_refused c.read_rollup.result _ _ refl })
