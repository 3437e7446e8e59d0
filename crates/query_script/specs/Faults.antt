-- What is wrong with a line.
use Rattle.std.specs.Prelude.{ℕ, Option, Some, None}
use Rattle.query_script.specs.declared.line.LineRefused.{LineRefused}
use Rattle.query_script.specs.declared.line.LineRefused.TheVariants as refusals

-- the line isn't UTF-8, its word is no command, the field at a place is missing, not allowed or one too many, or a
-- value is no number
pub data LineFault : Type 0 where
  Utf8 : LineFault
  Command : LineFault
  Field : ℕ → LineFault
  Number : LineFault

-- the fault that a refusal names; want of memory is none
abbrev pub line_fault_in : LineRefused → Option LineFault
line_fault_in refusals.Utf8 = Some Utf8
line_fault_in refusals.Command = Some Command
line_fault_in (refusals.Field k) = Some (Field k)
line_fault_in refusals.Number = Some Number
line_fault_in refusals.Memory = None
