use Rattle.std.proofs.Common.{◌≡◌, ◌==◌, take, true}
use Rattle.std.specs.List.{list_all}
use Rattle.cell_closure.specs.Parts.{code_at}
use Rattle.cell_closure.proofs.closure.all_have.Given as goal

abbrev pub invariant-rows : goal.invariant-rows
invariant-rows l = list_all (λ n. code_at l.rows.table.now l.dim n == l.code) (take l.row-index l.rows.numbers.now) ≡ true
