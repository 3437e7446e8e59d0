use Rattle.std.proofs.Common.{◌≡◌, drop}
use Rattle.csv.specs.Records.{fields_of}
use Rattle.csv_load.specs.Columns.{needed_names, places_in}
use Rattle.csv_load.proofs.Names.{places_with}
use Rattle.csv_load.proofs.columns.find_columns.Given as goal

abbrev pub invariant-names : goal.invariant-names
invariant-names l = places_with l.places.items
    (places_in (fields_of l.header) (drop l.column (needed_names l.has_op l.schema))) ≡ places_in (fields_of l.header)
    (needed_names l.has_op l.schema)
