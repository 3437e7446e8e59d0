-- What the fields of a record ask.
use Rattle.std.specs.Prelude.{ℕ, List, Result, Err, if◌then◌else◌}
use Rattle.std.specs.List.{flat_map}
use Rattle.csv.specs.Reading.{default_config, records}
use Rattle.cube_defs.specs.Text.{Text}
use Rattle.cell_core.specs.declared.fields.Field as asked
use Rattle.text_lines.specs.Lines.{begins_with_mark}
use Rattle.query_script.specs.Faults as faults
use Rattle.query_script.specs.Faults.{LineFault}
use Rattle.query_script.specs.Fields.{field_of, fields_from}
use Rattle.query_script.specs.declared.record.Shape.{Shape}

-- the fields of all records of a text, one after another
abbrev pub fields_in : List ℕ → List Text
fields_in rest = flat_map (λ fields. fields) (records default_config rest)

-- what a record asks of so many dimensions; a byte order mark before it makes the first field none that is allowed
abbrev pub record_in : Shape → ℕ → List ℕ → Result (List asked.Field) LineFault
record_in shape dims rest = if begins_with_mark rest then Err (faults.Field 1)
    else fields_from (field_of shape) 1 dims (fields_in rest)
