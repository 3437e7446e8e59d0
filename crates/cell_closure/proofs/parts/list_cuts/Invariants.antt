use Rattle.std.proofs.Common.{◌≡◌, ℕ, ◌<◌, ◌≤◌, ◌-◌, ◌++◌, length, get_or, drop}
use Rattle.cell_closure.specs.declared.parts.Cut.{Cut}
use Rattle.cell_closure.specs.Runs.{pieces, runs}
use Rattle.cell_closure.proofs.Runs.{rows_in}
use Rattle.cell_closure.proofs.parts.list_cuts.Given as goal

abbrev pub invariant-cuts : goal.invariant-cuts
invariant-cuts l = record {
  bound : l.start ≤ length l.keyed;
  runs : pieces l.cuts.items (rows_in l.keyed) ++ runs (drop l.start l.keyed) ≡ runs l.keyed;
  within : (k : ℕ) (d : Cut) → k < length l.cuts.items
      → ((get_or l.cuts.items k d).start ≤ (get_or l.cuts.items k d).end)
      × ((get_or l.cuts.items k d).end ≤ length l.keyed);
}

abbrev pub decreases-cuts : goal.decreases-cuts
decreases-cuts l = length l.keyed - l.start
