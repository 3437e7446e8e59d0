use Rattle.std.proofs.Common.{◌∙◌, ap, subst, sym}
use Rattle.row_generator.specs.Generator.{base_text}
use Rattle.warehouse.specs.Batch.{Load}
use Rattle.generated_run.specs.Generated.{IsTaken, file_taken}
use Rattle.generated_run.proofs.run.fill.Goals as goal

pub load_base-requires-clause-taken : goal.load_base-requires-clause-taken
load_base-requires-clause-taken g c = subst (λ s. IsTaken s Load (base_text c.args.rows c.args.seed))
    (sym c.requires.state) (c.no_generated_file_is_refused.ensures.base c.args.rows c.args.seed c.requires.rows)

pub apply_batches-requires-clause-draws : goal.apply_batches-requires-clause-draws
apply_batches-requires-clause-draws g c = c.in_ok-load_base.ensures.draws

pub apply_batches-requires-clause-state : goal.apply_batches-requires-clause-state
apply_batches-requires-clause-state g c = c.in_ok-load_base.ensures.state
    ∙ ap (λ s. file_taken s Load (base_text c.args.rows c.args.seed)) c.requires.state
    ∙ sym (c.no_generated_file_is_refused.ensures.start c.args.rows c.args.seed)

pub returns-clause-state : goal.returns-clause-state
returns-clause-state g c = c.in_ok-apply_batches.ensures
    ∙ sym (c.no_generated_file_is_refused.ensures.end c.args.rows c.args.seed)
