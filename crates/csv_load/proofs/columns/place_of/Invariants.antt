use Rattle.std.proofs.Common.{◌≡◌, drop}
use Rattle.csv.specs.Records.{fields_of}
use Rattle.csv_load.specs.Columns.{place_from}
use Rattle.csv_load.proofs.Names.{place_left}
use Rattle.csv_load.proofs.columns.place_of.Given as goal

abbrev pub invariant-loop-place : goal.invariant-loop-place
invariant-loop-place l = place_left l.found l.place l.name (drop l.place (fields_of l.header)) ≡ place_from 0 l.name
    (fields_of l.header)
