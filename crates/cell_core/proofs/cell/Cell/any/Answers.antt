use Rattle.cell_core.proofs.CodesLemmas.{entries-any}
use Rattle.cell_core.proofs.cell.Cell.any.Goals as goal

pub returns-clause-value : goal.returns-clause-value
returns-clause-value c = entries-any c.args.dims 16 c.requires
