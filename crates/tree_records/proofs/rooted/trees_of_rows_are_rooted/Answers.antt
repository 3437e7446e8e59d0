use Rattle.tree_records.proofs.Parents.{rooted}
use Rattle.tree_records.proofs.rooted.trees_of_rows_are_rooted.Goals as goal

pub returns : goal.returns
returns c = rooted
