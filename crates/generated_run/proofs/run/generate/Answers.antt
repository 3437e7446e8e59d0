use Rattle.std.proofs.Common.{◌∙◌, ap}
use Rattle.generated_run.specs.Generated.{record_text}
use Rattle.generated_run.proofs.run.generate.Goals as goal

pub fill-requires-clause-state : goal.fill-requires-clause-state
fill-requires-clause-state g c = c.in_ok-warehouse.ensures

pub returns-in-Ok-clause-state : goal.returns-in-Ok-clause-state
returns-in-Ok-clause-state g c = c.in-Ok.ensures.state

pub returns-in-Ok-clause-text : goal.returns-in-Ok-clause-text
returns-in-Ok-clause-text g c = c.in-Ok.ensures.text
    ∙ ap (record_text c.args.rows c.args.seed) c.in-Ok.ensures.state
