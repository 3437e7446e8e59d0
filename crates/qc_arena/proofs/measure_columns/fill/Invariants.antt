use Rattle.std.proofs.Common.{◌≡◌, ◌-◌, ◌≤◌, ℕ, get_or, length}
use Rattle.std.specs.Vec.{vec_capacity}
use Rattle.aggregates.specs.Bounds.{zero_part}
use Rattle.qc_arena.proofs.measure_columns.fill.Given as goal

abbrev pub invariant-more : goal.invariant-more
invariant-more l = record {
  same : (q : ℕ) → get_or l.column.items q zero_part ≡ get_or l.initial.column.items q zero_part;
  room : vec_capacity l.column ≡ vec_capacity l.initial.column;
  short : length l.column.items ≤ l.node;
}

abbrev pub decreases-more : goal.decreases-more
decreases-more l = l.node - length l.column.items
