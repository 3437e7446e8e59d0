use Rattle.std.proofs.Common.{◌≡◌, ◌<◌, ◌^◌, ◌+◌, length}
use Rattle.csv_load.specs.Batch.{AreChanges}
use Rattle.csv_load.specs.Files.{changes_from}
use Rattle.text_lines.specs.Records.{bytes_in, bytes_in_all}
use Rattle.csv_load.proofs.Columnar.{all_in}
use Rattle.csv_load.proofs.Refusals.{ok_with}
use Rattle.csv_load.proofs.reading.read_changes.Given as goal

abbrev pub invariant-records : goal.invariant-records
invariant-records l =
    let dims = length l.schema.dims in
    let measures = length l.schema.measures in
    record {
      changes : ok_with (all_in dims measures l.changes)
          (changes_from l.columns.has_op l.schema l.columns.width l.columns.places.items
          (1 + length l.changes.ids.items) l.rows) ≡ changes_from l.columns.has_op l.schema l.columns.width
          l.columns.places.items 1 l.initial.rows;
      count : length l.changes.ids.items + length l.rows ≡ length l.initial.rows;
      columns : AreChanges dims measures l.changes;
      room : bytes_in l.changes.texts + bytes_in_all l.rows < 2 ^ 32;
    }

abbrev pub decreases-records : goal.decreases-records
decreases-records l = length l.rows
