use Rattle.std.proofs.Common.{◌≡◌, ◌≤◌, All, IsUtf8, length}
use Rattle.std.specs.List.{flat_map}
use Rattle.query_script.specs.Progress.{asks}
use Rattle.cube_defs.specs.declared.limits.TheConstants.{MAX_FILE}
use Rattle.text_lines.specs.Records.{bytes_in_all}
use Rattle.query_script.proofs.record.push_records.Given as goal

abbrev pub invariant-records : goal.invariant-records
invariant-records l = record {
  asked : asks l.so_far (flat_map (λ fields. fields) l.rows)
      ≡ asks l.initial.so_far (flat_map (λ fields. fields) l.initial.rows);
  text : All (All IsUtf8) l.rows;
  size : bytes_in_all l.rows ≤ MAX_FILE;
}

abbrev pub decreases-records : goal.decreases-records
decreases-records l = length l.rows
