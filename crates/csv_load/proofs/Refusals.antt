-- A fault of what is read first is that of the whole.
use Rattle.std.proofs.Common.{◌≡◌, List, ◌++◌, refl, Some, None}
use Rattle.std.specs.Prelude.{Option, IfSome, Result, Ok, Err}
use Rattle.csv_load.specs.Faults.{Fault, cons_ok}

-- the elements before, and then what a reading gives
abbrev pub ok_with : {X : Type 0} → List X → Result (List X) Fault → Result (List X) Fault
ok_with before (Err fault) = Err fault
ok_with before (Ok more) = Ok (before ++ more)

pub fails-cons : {X : Type 0} (named : Option Fault) (first : Result X Fault) (more : Result (List X) Fault)
    → IfSome named (λ fault. first ≡ Err fault) → IfSome named (λ fault. cons_ok first more ≡ Err fault)
fails-cons None first more h = tt
fails-cons (Some fault) first more h = rw h refl

pub fails-with : {X : Type 0} (named : Option Fault) (before : List X) (more : Result (List X) Fault)
    → IfSome named (λ fault. more ≡ Err fault) → IfSome named (λ fault. ok_with before more ≡ Err fault)
fails-with None before more h = tt
fails-with (Some fault) before more h = rw h refl
