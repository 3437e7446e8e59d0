use Rattle.std.proofs.Common.{◌≡◌, ◌≤◌, take, vec_capacity, vec_len}
use Rattle.base_table.specs.Places.{named, rows_of}
use Rattle.cell_closure.proofs.Rows.{There}
use Rattle.cell_closure.proofs.sorted_rows.SortedRows.all.Given as goal

abbrev pub invariant-rows : goal.invariant-rows
invariant-rows l = record {
  rows : named l.self l.nos.items ≡ take l.place (rows_of l.self);
  there : There l.self l.nos.items;
  len : vec_len l.nos ≡ l.place;
  room : l.place-end ≤ vec_capacity l.nos;
}
