use Rattle.std.proofs.Common.{◌≡◌, ℕ, IsSome, None, Some, length}
use Rattle.slab.specs.Slab as slots
use Rattle.qc_arena.specs.Inside.{image_at, image_or}
use Rattle.qc_arena.proofs.slots.restore_all.Given as goal

abbrev pub invariant-images : goal.invariant-images
invariant-images l = record {
  placed : (q : ℕ) → IsSome (image_at l.images q) → slots.ContainsKey l.nodes q;
  killed : (q : ℕ) → slots.get l.nodes q ≡ Some None → IsSome (image_at l.images q);
  same : (q : ℕ) → image_or l.nodes l.images q ≡ image_or l.initial.nodes l.initial.images q;
}

abbrev pub decreases-images : goal.decreases-images
decreases-images l = length l.images
