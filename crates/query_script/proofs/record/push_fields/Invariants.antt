use Rattle.std.proofs.Common.{◌≡◌, ◌++◌, List, drop}
use Rattle.csv.specs.Records.{fields_of}
use Rattle.cube_defs.specs.Text.{Text}
use Rattle.query_script.specs.Progress.{asks}
use Rattle.query_script.proofs.record.push_fields.Given as goal

abbrev pub invariant-fields : goal.invariant-fields
invariant-fields l = record {
  asked : (more : List Text) → asks l.so_far (drop l.at (fields_of l.row) ++ more)
      ≡ asks l.initial.so_far (fields_of l.row ++ more);
}
