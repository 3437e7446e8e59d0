use Rattle.std.proofs.Common.{◌≡◌, ℕ, ◌<◌, get_or, length, take}
use Rattle.cell_closure.proofs.Closing.{zeroth}
use Rattle.cell_closure.proofs.Widths.{shared_code}
use Rattle.cell_closure.proofs.width.shared_codes.Given as goal

abbrev pub invariant-rows : goal.invariant-rows
invariant-rows g l = record {
  long : length l.shared ≡ g.row.N;
  done : (j : ℕ) → j < l.rows.table.now.dims
      → get_or l.shared j 0 ≡ shared_code l.rows.table.now j (get_or l.rows.numbers.now 0 zeroth) (take l.row-index l.rest);
}
