use Rattle.std.proofs.Common.{◌≡◌, ◌↔◌, ℕ, ◌+◌, ◌*◌, ◌<◌, ◌≤◌, get_or, length, map, nat_eq, take}
use Rattle.std.specs.List.{IsDistinct}
use Rattle.cube_laws.specs.Lists.{Among}
use Rattle.quotient_lattice.specs.Candidates.{times}
use Rattle.quotient_lattice.specs.NodeCells.{AreAt, IsPicked, number_of}
use Rattle.quotient_lattice.proofs.downward.children_among.Given as goal

abbrev pub invariant-led : goal.invariant-led
invariant-led g l = record {
  more : l.i < length l.led.items → l.more ≡ times (get_or l.led.items l.i 0) (take l.i l.led.items);
  few : l.more ≤ l.i;
  each : (k : ℕ) → Among k (map number_of l.found.items) ↔ IsPicked l.tree.tree l.values l.led.items l.i k;
  once : IsDistinct nat_eq (map number_of l.found.items);
  cells : AreAt l.tree.tree l.found.items;
  steps : l.steps ≤ l.fn.steps + l.i * (2 * l.tree.width + 2);
}
