use Rattle.std.proofs.Common.{length}
use Rattle.measure_index.proofs.index.+change_columns.Given as goal

abbrev pub decreases-change_columns : goal.decreases-change_columns
decreases-change_columns l = length l.columns.now
