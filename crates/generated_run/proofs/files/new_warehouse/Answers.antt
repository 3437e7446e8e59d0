use Rattle.std.proofs.Common.{◌≡◌, None, Option, Some, refl, subst}
use Rattle.std.specs.Prelude.{Err, IfOk, IfSome, Ok, Result}
use Rattle.qc_schema.specs.Schema.{Layout}
use Rattle.qc_schema.specs.Progress.{Fault}
use Rattle.warehouse.specs.State.{empty}
use Rattle.row_generator.specs.Drawn.{layout}
use Rattle.generated_run.proofs.Schema.{spelt}
use Rattle.generated_run.proofs.files.new_warehouse.Goals as goal

same-layout : (read : Result Layout Fault) (l m : Layout) → read ≡ Ok l → read ≡ Ok m → l ≡ m
same-layout read l m e f = cc

pub returns-in-Ok : goal.returns-in-Ok
returns-in-Ok c =
    subst (λ (l : Layout). IfOk c.new.result (λ warehouse. warehouse.state ≡ empty l))
    (same-layout _ c.in-Ok.schema layout c.in-Ok.ensures spelt) c.new.ensures

no-fault : (o : Option Fault) (read : Result Layout Fault) (l : Layout) → read ≡ Ok l
    → IfSome o (λ fault. read ≡ Err fault) → o ≡ None
no-fault None read l e h = refl
no-fault (Some fault) read l e h = absurd (cc)

pub out_of_memory-requires : goal.out_of_memory-requires
out_of_memory-requires c = no-fault _ _ layout spelt c.in-Err.ensures
