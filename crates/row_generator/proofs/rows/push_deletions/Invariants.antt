use Rattle.std.proofs.Common.{◌≡◌, ◌≤◌, ◌+◌, ◌*◌, ◌++◌, length}
use Rattle.row_generator.specs.Generator.{deletions_text}
use Rattle.row_generator.proofs.rows.push_deletions.Given as goal

-- what is written and what is to come are the whole
abbrev pub invariant-rows : goal.invariant-rows
invariant-rows l = record {
  text : l.out.items ++ deletions_text l.left l.id ≡ l.fn.out.items ++ deletions_text l.count l.first;
  short : length l.out.items + 19 * l.left ≤ length l.fn.out.items + 19 * l.count;
  ids : l.id + l.left ≡ l.first + l.count;
}

abbrev pub decreases-rows : goal.decreases-rows
decreases-rows l = l.left
