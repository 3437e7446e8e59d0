-- What is needed of a record.
use Rattle.std.specs.Prelude.{ℕ, List}
use Rattle.csv.specs.Records.{fields_of}
use Rattle.csv_load.specs.Columns.{fields_at}
use Rattle.csv_load.specs.declared.row.FileRow.{FileRow}

-- the fields in the needed columns, in the schema's order
abbrev pub needed_of : FileRow → List (List ℕ)
needed_of row = fields_at row.columns.now.places.items (fields_of row.fields.now)
