use Rattle.std.proofs.Common.{◌≡◌, ℕ, IsSome, None, Some}
use Rattle.slab.specs.Slab as slots
use Rattle.qc_arena.specs.Inside.{image_at, join}
use Rattle.qc_arena.proofs.Suffixes.{suffix_from}
use Rattle.qc_arena.proofs.slots.free_places.Given as goal

abbrev pub invariant-images : goal.invariant-images
invariant-images l = record {
  placed : (q : ℕ) → IsSome (image_at (suffix_from l.k l.images) q) → slots.ContainsKey l.nodes q;
  killed : (q : ℕ) → slots.get l.nodes q ≡ Some None → IsSome (image_at (suffix_from l.k l.images) q);
  same : (q : ℕ) → join (slots.get l.nodes q) ≡ join (slots.get l.initial.nodes q);
}
