use Rattle.std.proofs.Common.{ap, arith, length}
use Rattle.csv_load.specs.Batch.{Batch}
use Rattle.csv_load.proofs.Columnar.{length-all}
use Rattle.csv_load.proofs.batch.RawBatch.len.Goals as goal

pub overflow_cast-result : goal.overflow_cast-result
overflow_cast-result c =
    omega (
      arith,
      c.len.ensures,
      c.self.invariant.is_batch.few,
      length-all c.self.inside.dims c.self.inside.measures c.self.inside.changes,
    )

pub returns-clause-count : goal.returns-clause-count
returns-clause-count c =
    omega (
      arith,
      c.len.ensures,
      length-all c.self.inside.dims c.self.inside.measures c.self.inside.changes,
      ap (λ (b : Batch). length b.changes) c.self.view_is,
    )
