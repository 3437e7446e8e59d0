-- What is wrong with a file.
use Rattle.std.specs.Prelude.{ℕ, List, ◌∷◌, Option, Some, None, Result, Ok, Err}
use Rattle.csv_load.specs.declared.files.LoadRefused.{LoadRefused}
use Rattle.csv_load.specs.declared.files.LoadRefused.TheVariants as refusals

-- the first fault of a file: its header, or what is wrong with the record of a number
pub data Fault : Type 0 where
  Header : Fault
  Fields : ℕ → Fault
  Utf8 : ℕ → Fault
  Op : ℕ → Fault
  Id : ℕ → Fault
  Amount : ℕ → Fault
  Value : ℕ → Fault

-- the fault that a refusal names; want of memory is none
abbrev pub fault_in : LoadRefused → Option Fault
fault_in refusals.Header = Some Header
fault_in (refusals.Fields k) = Some (Fields k)
fault_in (refusals.Utf8 k) = Some (Utf8 k)
fault_in (refusals.Op k) = Some (Op k)
fault_in (refusals.Id k) = Some (Id k)
fault_in (refusals.Amount k) = Some (Amount k)
fault_in (refusals.Value k) = Some (Value k)
fault_in refusals.Memory = None

-- the row before the others, or the first fault
abbrev pub cons_ok : {X : Type 0} → Result X Fault → Result (List X) Fault → Result (List X) Fault
cons_ok (Err fault) more = Err fault
cons_ok (Ok x) (Err fault) = Err fault
cons_ok (Ok x) (Ok xs) = Ok (x ∷ xs)
