-- A list of fields that is partly read.
use Rattle.std.specs.Prelude.{ℕ, ◌+◌, ◌-◌, List, ◌++◌, length, Option, Result, Ok, Err}
use Rattle.cube_defs.specs.Text.{Text}
use Rattle.cell_core.specs.declared.fields.Field as asked
use Rattle.query_script.specs.Faults.{LineFault}
use Rattle.query_script.specs.Fields.{field_of, fields_from}
use Rattle.query_script.specs.declared.asked_fields.AskedFields.{AskedFields}

-- the fields before, and then what a reading gives
abbrev pub ok_with : List asked.Field → Result (List asked.Field) LineFault → Result (List asked.Field) LineFault
ok_with before (Err fault) = Err fault
ok_with before (Ok more) = Ok (before ++ more)

-- the fields before, which were read, and then what these texts ask of the dimensions that are left
abbrev pub asked_after : (Text → Option asked.Field) → ℕ → List asked.Field → List Text
    → Result (List asked.Field) LineFault
asked_after ask dims before texts = ok_with before (fields_from ask (length before + 1) (dims - length before) texts)

-- what is asked for so far, together with what these texts ask
abbrev pub asks : AskedFields → List Text → Result (List asked.Field) LineFault
asks so_far texts = asked_after (field_of so_far.shape) so_far.dims so_far.fields texts
