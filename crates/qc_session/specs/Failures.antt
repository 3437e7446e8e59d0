-- The failures of the code as causes.
use Rattle.std.specs.Prelude.{ℕ, List, ◌≡◌, Option, Some, None, IfSome, ⊤}
use Rattle.qc_session.specs.Runs as runs
use Rattle.qc_schema.specs.Progress.{Fault, schema_fault_in}
use Rattle.qc_schema.specs.declared.refusal.SchemaRefused.{SchemaRefused}
use Rattle.qc_session.specs.declared.failure.Failure.{Failure}
use Rattle.qc_session.specs.declared.failure.Failure.TheVariants as failures

-- want of memory, or a fault of a schema, as a cause
abbrev pub schema_cause : Option Fault → runs.Cause
schema_cause None = runs.OutOfMemory
schema_cause (Some fault) = runs.NoSchema fault

abbrev pub cause_of : Failure → runs.Cause
cause_of failures.Usage = runs.Usage
cause_of (failures.CannotRead name) = runs.CannotRead name.now
cause_of failures.CannotWrite = runs.CannotWrite
cause_of failures.OutOfMemory = runs.OutOfMemory
cause_of (failures.NoSchema refused) = schema_cause (schema_fault_in refused)
cause_of failures.NoSnapshot = runs.NoSnapshot
cause_of failures.LongSnapshot = runs.LongSnapshot
cause_of (failures.TooLong name) = runs.TooLong name.now

-- a text that tells the fault of a schema, where there is one
abbrev pub TellsFault : SchemaRefused → List ℕ → Type 0
TellsFault refused text = IfSome (schema_fault_in refused) (λ fault. text ≡ runs.fault_text fault)

-- the same, where the failure is one of a schema
abbrev pub TellsSchema : Failure → List ℕ → Type 0
TellsSchema (failures.NoSchema refused) text = TellsFault refused text
TellsSchema failure text = ⊤

-- the whole line, where nothing in it differs
abbrev pub TellsFixed : Failure → List ℕ → Type 0
TellsFixed (failures.CannotRead name) text = ⊤
TellsFixed (failures.NoSchema refused) text = ⊤
TellsFixed (failures.TooLong name) text = ⊤
TellsFixed failure text = text ≡ runs.error_text (cause_of failure)
