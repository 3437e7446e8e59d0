use Rattle.std.proofs.Common.{◌≡◌, ℕ, ◌+◌, ◌*◌, ◌≤◌, filter, length, take}
use Rattle.std.specs.Prelude.{IsSome}
use Rattle.std.specs.FinMap as map
use Rattle.qc_arena.specs.RecordReaders.{record_at}
use Rattle.tree_search.specs.Found.{IsTreeOf, TreeRows}
use Rattle.quotient_lattice.specs.Candidates.{AreThere, label_leads, lead_count, times}
use Rattle.quotient_lattice.proofs.candidates.push_labels.Given as goal

abbrev pub invariant-edges : goal.invariant-edges
invariant-edges g l = record {
  same : l.u ≡ l.fn.u;
  led : (source : TreeRows) → IsTreeOf l.tree.width l.tree.tree source → (k : ℕ)
      → IsSome (map.get l.tree.tree k)
      → times k l.led.items ≡ length
      (filter (label_leads source l.fn.u (record_at l.tree.tree k).cell l.end)
      (take l.k (record_at l.tree.tree l.at.0).edges)) + lead_count source l.fn.u
      (record_at l.tree.tree k).cell l.end l.tree.width;
  there : AreThere l.tree.tree l.led.items;
  few : length l.led.items ≤ length l.fn.led.items + l.k;
  steps : l.steps ≤ l.fn.steps + 1 + l.k * (2 * length l.fn.u + 3);
}
