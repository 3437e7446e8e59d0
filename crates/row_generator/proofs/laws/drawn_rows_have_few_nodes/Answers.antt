use Rattle.row_generator.proofs.Cells.{few-nodes}
use Rattle.row_generator.proofs.laws.drawn_rows_have_few_nodes.Goals as goal

pub returns : goal.returns
returns c = few-nodes
