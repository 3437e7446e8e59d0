use Rattle.std.proofs.Common.{◌≡◌, ◌↔◌, ℕ, ◌^◌, ◌+◌, ◌*◌, ◌-◌, ◌≤◌, length, map, nat_eq, take, true}
use Rattle.std.specs.List.{IsDistinct, sum_by}
use Rattle.cube_laws.specs.Lists.{Among}
use Rattle.tree_search.specs.Found.{IsTreeOf, TreeRows}
use Rattle.quotient_lattice.specs.Candidates.{edges_on_way}
use Rattle.quotient_lattice.specs.NodeCells.{AreAt, number_of}
use Rattle.quotient_lattice.specs.Visits.{AreQueued, wants}
use Rattle.quotient_lattice.proofs.rolling.meet_all.Given as goal

abbrev pub invariant-seen : goal.invariant-seen
invariant-seen g l = record {
  within : l.i ≤ length l.seen.keys;
  first : Among l.fn.node.0 l.seen.keys;
  apart : IsDistinct nat_eq l.seen.keys;
  seen : (source : TreeRows) → IsTreeOf l.selection.tree.now.width l.selection.tree.now.tree source
      → AreQueued l.selection.tree.now.tree source l.selection.ask.now l.fn.node.0 l.seen.keys l.i;
  each : (k : ℕ) → Among k (map number_of l.met.items)
      ↔ (Among k (take l.i l.seen.keys) × (wants l.selection.tree.now.tree l.selection.ask.now k ≡ true));
  once : IsDistinct nat_eq (map number_of l.met.items);
  cells : AreAt l.selection.tree.now.tree l.met.items;
  steps : l.steps ≤ l.fn.steps + 17 * (l.selection.tree.now.width + 1)
      * sum_by (λ k. edges_on_way l.selection.tree.now.tree k + 1) (take l.i l.seen.keys);
}

abbrev pub decreases-seen : goal.decreases-seen
decreases-seen g l = 2 ^ 63 - l.i
