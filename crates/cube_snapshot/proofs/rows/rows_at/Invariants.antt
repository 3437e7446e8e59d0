use Rattle.std.proofs.Common.{◌≡◌, ◌-◌, length}
use Rattle.base_table.specs.Places.{rows_of}
use Rattle.value_dict.specs.Decoded.{RowsAreCodes}
use Rattle.cube_snapshot.specs.Format.{get_times}
use Rattle.cube_snapshot.specs.Parts.{row}
use Rattle.cube_snapshot.specs.Readers.{table_frame}
use Rattle.cube_snapshot.proofs.Looping.{with_prefix}
use Rattle.cube_snapshot.proofs.rows.rows_at.Given as goal

abbrev pub invariant-rows : goal.invariant-rows
invariant-rows l = record {
  kept : table_frame l.table ≡ table_frame l.fn.table;
  wide : length l.cell ≡ l.fn.table.dims;
  known : RowsAreCodes l.dict.lists (rows_of l.table);
  so_far : with_prefix (row l.fn.table.dims l.fn.table.measures) (rows_of l.table)
      (get_times (row l.fn.table.dims l.fn.table.measures) (l.count - l.counter) l.rest)
      ≡ get_times (row l.fn.table.dims l.fn.table.measures) l.count l.bytes;
}
