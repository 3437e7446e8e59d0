use Rattle.std.proofs.Common.{◌≡◌, ◌≤◌, ◌+◌, ◌*◌, ◌++◌, length}
use Rattle.row_generator.specs.Generator.{after_rows, rows_text}
use Rattle.row_generator.proofs.rows.push_rows.Given as goal

-- what is written and what is to come are the whole
abbrev pub invariant-rows : goal.invariant-rows
invariant-rows l = record {
  state : after_rows l.left l.draws.state ≡ after_rows l.count l.fn.draws.state;
  text : l.out.items ++ rows_text l.front l.left l.id l.draws.state ≡ l.fn.out.items
      ++ rows_text l.front l.count l.first l.fn.draws.state;
  short : length l.out.items + 128 * l.left ≤ length l.fn.out.items + 128 * l.count;
  ids : l.id + l.left ≡ l.first + l.count;
}

abbrev pub decreases-rows : goal.decreases-rows
decreases-rows l = l.left
