use Rattle.std.proofs.Common.{◌∙◌, ap₂, set}
use Rattle.cell_core.proofs.CodesLemmas.{entries-set}
use Rattle.cell_core.proofs.cell.Cell.set.Goals as goal

pub returns-clause-value : goal.returns-clause-value
returns-clause-value c = entries-set c.self.inside.codes c.self.inside.dims c.args.dim c.stored_code.result
    ∙ ap₂ (λ es e. set es c.args.dim e) c.self.view_is c.stored_code.ensures.value
