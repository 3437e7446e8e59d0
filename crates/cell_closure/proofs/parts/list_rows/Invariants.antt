use Rattle.std.proofs.Common.{◌≡◌, ◌≤◌, length, map, take, vec_capacity, vec_len}
use Rattle.cell_closure.proofs.parts.list_rows.Given as goal

abbrev pub invariant-rows : goal.invariant-rows
invariant-rows l = record {
  put : l.rows.items ≡ map (λ k. k.row) (take l.k-index l.keyed);
  len : vec_len l.rows ≡ l.k-index;
  room : length l.keyed ≤ vec_capacity l.rows;
}
