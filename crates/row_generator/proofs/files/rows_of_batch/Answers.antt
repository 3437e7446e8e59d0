use Rattle.row_generator.specs.Generator.{batch_rows}
use Rattle.row_generator.proofs.files.rows_of_batch.Goals as goal

pub returns-clause-rows : goal.returns-clause-rows
unfolding batch_rows
returns-clause-rows c = c.min.ensures
