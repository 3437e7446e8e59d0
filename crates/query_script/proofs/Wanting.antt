-- What holds of a refusal that runs out of memory, if it holds at all.
use Rattle.std.specs.Prelude.{Result, Ok, Err, IfErr}

pub if_refused : {X E : Type 0} (result : Result X E) (is : E → Type 0) (P : Type 0) → P → IfErr result (λ e. is e → P)
if_refused (Ok x) is P h = tt
if_refused (Err e) is P h = λ _. h
