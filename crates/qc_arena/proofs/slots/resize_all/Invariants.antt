use Rattle.std.proofs.Common.{◌≡◌, ◌≢◌, ◌<◌, ◌≤◌, ℕ, None, Some}
use Rattle.std.specs.Option.{option_map}
use Rattle.slab.specs.Slab as slots
use Rattle.qc_arena.specs.Inside.{join}
use Rattle.qc_arena.specs.Resized.{resized}
use Rattle.qc_arena.proofs.slots.resize_all.Given as goal

abbrev pub invariant-places : goal.invariant-places
invariant-places l = record {
  none_killed : (q : ℕ) → slots.get l.nodes q ≢ Some None;
  done : (q : ℕ) → q < l.place
      → join (slots.get l.nodes q) ≡ option_map (resized l.dims) (join (slots.get l.initial.nodes q));
  rest : (q : ℕ) → l.place ≤ q → slots.get l.nodes q ≡ slots.get l.initial.nodes q;
}
