-- The states that files leave.
use Rattle.std.proofs.Common.{◌≡◌, ℕ, List, Option, Some, None, IfSome, Result, Ok, Err, refl, sym, ap, subst, true≢false}
use Rattle.std.specs.Prelude.{IfErr, IsOk}
use Rattle.cell_core.specs.Gives.{Gives}
use Rattle.warehouse.specs.Batch as batches
use Rattle.warehouse.specs.Batch.{FileUse, Refusal, result}
use Rattle.warehouse.specs.State.{State}
use Rattle.warehouse.specs.Stored.{applied_in, refusal_in}
use Rattle.warehouse.specs.declared.refused.Applied.{Applied}
use Rattle.warehouse.specs.declared.refused.Refused.{Refused}
use Rattle.generated_run.specs.Generated.{IsTaken, file_taken, state_after}

no-value : {X E : Type 0} (r : Result X E) (e : E) → r ≡ Err e → IsOk r → ⊥
no-value (Ok x) e is h = cc
no-value (Err x) e is h = true≢false (sym h)

nothing-refused : (new : State) (r : Result Applied Refused) (read : Result batches.Applied Refusal)
    → Gives refusal_in (applied_in new) r read → IsOk read → IfErr r (λ refused. refusal_in refused ≡ None)
nothing-refused new (Ok applied) read gives ok = tt
nothing-refused new (Err refused) read gives ok = go (refusal_in refused) gives
  where
    go : (o : Option Refusal) → IfSome o (λ refusal. read ≡ Err refusal) → o ≡ None
    go None g = refl
    go (Some refusal) g = absurd (no-value read refusal g ok)

-- a file that is taken is refused for nothing but memory
pub only-memory : (old new : State) (kind : FileUse) (bytes text : List ℕ) (r : Result Applied Refused) → bytes ≡ text
    → Gives refusal_in (applied_in new) r (result old kind bytes) → IsTaken old kind text
    → IfErr r (λ refused. refusal_in refused ≡ None)
only-memory old new kind bytes text r e gives taken
    = nothing-refused new r (result old kind bytes) gives (subst (λ b. IsTaken old kind b) (sym e) taken)

state-left : (old new : State) (r : Result Applied Refused) (read : Result batches.Applied Refusal)
    → Gives refusal_in (applied_in new) r read → IsOk r → new ≡ state_after old read
state-left old new (Ok applied) read gives ok = sym (ap (state_after old) gives)
state-left old new (Err refused) read gives ok = absurd (true≢false (sym ok))

-- the state after a file that was taken
pub file-left : (old new : State) (kind : FileUse) (bytes text : List ℕ) (r : Result Applied Refused) → bytes ≡ text
    → Gives refusal_in (applied_in new) r (result old kind bytes) → IsOk r → new ≡ file_taken old kind text
unfolding file_taken
file-left old new kind bytes text r e gives ok
    = rw (← e) (state-left old new r (result old kind bytes) gives ok)
