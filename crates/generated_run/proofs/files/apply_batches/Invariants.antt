use Rattle.std.proofs.Common.{◌≡◌, ◌+◌, ◌*◌}
use Rattle.generated_run.specs.Generated.{state_before}
use Rattle.row_generator.specs.Generator.{after_rows, batch_rows}
use Rattle.generated_run.proofs.files.apply_batches.Given as goal

abbrev pub invariant-batches : goal.invariant-batches
invariant-batches g l = record {
  draws : l.draws.state ≡ after_rows (l.rows + l.before * batch_rows l.rows) l.seed;
  state : l.warehouse.state ≡ state_before l.rows l.seed l.before;
}
