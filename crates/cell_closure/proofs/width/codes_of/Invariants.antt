use Rattle.std.proofs.Common.{◌≡◌, ℕ, ◌<◌, get_or, length}
use Rattle.cell_core.specs.Entry.{IsCode}
use Rattle.cell_closure.specs.Parts.{code_at}
use Rattle.cell_closure.proofs.width.codes_of.Given as goal

abbrev pub invariant-dims : goal.invariant-dims
invariant-dims g l = record {
  long : length l.codes ≡ g.row.N;
  value : (j : ℕ) → j < l.dim → get_or l.codes j 0 ≡ code_at l.table j l.row;
  small : (j : ℕ) → j < l.dim → IsCode (get_or l.codes j 0);
}
