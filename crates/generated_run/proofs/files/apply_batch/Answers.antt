use Rattle.std.proofs.Common.{◌∙◌}
use Rattle.std.proofs.lemmas.Result.{on_ok_weaker}
use Rattle.warehouse.specs.Batch.{Apply}
use Rattle.generated_run.proofs.Taken.{file-left, only-memory}
use Rattle.generated_run.proofs.files.apply_batch.Goals as goal

pub settled-requires : goal.settled-requires
settled-requires g c = only-memory c.args.warehouse.now.state c.apply.new.self.state Apply c.deref.result.now _
    c.apply.result (c.deref.ensures.value ∙ c.in_ok-write_batch.ensures.text) c.apply.ensures.gives c.requires.taken

pub returns-clause-state : goal.returns-clause-state
returns-clause-state g c =
    on_ok_weaker c.settled.result
    (λ ok. file-left c.args.warehouse.now.state c.apply.new.self.state Apply c.deref.result.now _ c.apply.result
    (c.deref.ensures.value ∙ c.in_ok-write_batch.ensures.text) c.apply.ensures.gives ok)
    c.settled.ensures
