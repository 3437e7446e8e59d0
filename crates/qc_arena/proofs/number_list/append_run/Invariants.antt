use Rattle.std.proofs.Common.{◌≡◌, ◌+◌, ◌-◌, ◌≤◌, ◌++◌, length}
use Rattle.qc_arena.specs.Numbers.{run}
use Rattle.qc_arena.proofs.number_list.append_run.Given as goal

abbrev pub invariant-numbers : goal.invariant-numbers
invariant-numbers l = record {
  low : l.first ≤ l.number;
  items : l.listed.items ≡ l.fn.listed.items ++ run l.first l.number;
  room : length l.listed.items + (l.end - l.number) ≤ l.listed.cap;
}
