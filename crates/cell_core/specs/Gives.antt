-- What a call answers, beside what a definition gives.
use Rattle.std.specs.Prelude.{◌≡◌, Option, IfSome, Result, Ok, Err}

-- The answer, seen by view, is what the reading gives. A refusal names the reading's fault, or is want of memory, which
-- is none
-- and says nothing of the reading.
abbrev pub Gives : {X Y E F : Type 0} → (E → Option F) → (X → Y) → Result X E → Result Y F → Type 0
Gives fault view (Ok x) read = read ≡ Ok (view x)
Gives fault view (Err e) read = IfSome (fault e) (λ f. read ≡ Err f)
