use Rattle.std.proofs.Common.{◌≡◌, length, take}
use Rattle.csv_load.specs.Batch.{inserted}
use Rattle.warehouse.specs.Batch.{texts_after}
use Rattle.warehouse.specs.Changing.{AreInserted, OnlyAdds}
use Rattle.warehouse.proofs.changing.insert_table_rows.Given as goal

abbrev pub invariant-changes : goal.invariant-changes
invariant-changes l =
    let before = take l.before l.batch.changes in
    record {
      inserted : AreInserted (texts_after l.initial.dict.lists before) (inserted before) l.initial.dict l.dict
          l.initial.table l.table;
      adds : OnlyAdds l.initial.dict l.dict l.initial.table l.table;
      cell : length l.cell ≡ length l.initial.cell;
    }
