-- How lists of images are settled, and what a pin reads meanwhile.
use Rattle.std.proofs.Common.{◌≡◌, ℕ, zero, suc, ◌+◌, ◌*◌, ◌<◌, ◌≤◌, refl, sym, ap, ap₂, ◌∙◌, subst, false, List, [], ◌∷◌, ◌++◌, drop}
use Rattle.std.proofs.Common.{length, map, arith, length-append}
use Rattle.std.proofs.lemmas.Simd.{map-map}
use Rattle.std.specs.FinMap as finmap
use Rattle.qc_arena.specs.Map.{ImageMap}
use Rattle.pinned_view.specs.Pins.{AreSettledFrom, AreWithin, IsMergedAt, IsSettledAt, KeepsReads, moved_over, reads_from, unplaced}
use Rattle.pinned_view.specs.declared.pins.Pin.{Pin}
use Rattle.pinned_view.proofs.Joining.{merged_reads}
use Rattle.pinned_view.proofs.Places.{least_over, read_over, without_within}
use Rattle.pinned_view.proofs.Sizes.{later_fewer}
use Rattle.pinned_view.proofs.StoredNumbers.{stored_merged, stored_same}

pub keeps_same : (kept : List ImageMap) (pins : List Pin) → KeepsReads kept pins kept pins
keeps_same kept pins = record {
  pins = refl;
  trees = λ tree. refl;
  within = λ w. w;
  first = omega arith;
  stores = stored_same kept;
}

within_over : (gone n m : ℕ) (pins : List Pin) → n ≡ suc m → gone ≤ m → AreWithin n pins
    → AreWithin m (map (moved_over gone) pins)
within_over gone n m [] e g within = tt
within_over gone n m (pin ∷ pins) e g within =
    (without_within gone pin.from m g (omega (arith, e, within.0)), within_over gone n m pins e g within.1)

-- a merge that no pin reads from within
pub keeps_merged : (place : ℕ) (kept kept' : List ImageMap) (pins : List Pin) → IsMergedAt place kept kept'
    → reads_from pins (suc place) ≡ false → KeepsReads kept pins kept' (map (moved_over (suc place)) pins)
keeps_merged place kept kept' pins m none =
    let long = ap (λ (k : List ImageMap). length k) m.was ∙ length-append m.front (m.older ∷ m.later ∷ m.back) in
    let short = ap (λ (k : List ImageMap). length k) m.now ∙ length-append m.front (m.both ∷ m.back) in
    record {
      pins = map-map unplaced (moved_over (suc place)) pins;
      trees = λ tree. merged_reads place kept kept' pins tree m none;
      within = within_over (suc place) (length kept) (length kept') pins (omega (arith, long, short))
          (omega (arith, short, m.at));
      first = least_over (suc place) (length kept) (length kept') pins (omega (arith, long, short));
      stores = stored_merged place kept kept' m;
    }

settled_next : (kept : List ImageMap) (pins : List Pin) (n place : ℕ) → n < length kept
    → IsSettledAt place (drop n kept) pins → AreSettledFrom (suc place) (drop (suc n) kept) pins
    → AreSettledFrom place (drop n kept) pins
settled_next [] pins n place w at rest = absurd (omega (arith, w))
settled_next (x ∷ kept) pins zero place w at rest = (at, rest)
settled_next (x ∷ kept) pins (suc n) place w at rest = settled_next kept pins n place (omega (arith, w)) at rest

-- a place that is settled before those that are
pub settled_more : (kept : List ImageMap) (pins : List Pin) (n : ℕ) → n < length kept → IsSettledAt n (drop n kept) pins
    → AreSettledFrom (suc n) (drop (suc n) kept) pins → AreSettledFrom n (drop n kept) pins
settled_more kept pins n w at rest = settled_next kept pins n n w at rest

shift : (gone place : ℕ) (back : List ImageMap) (pins : List Pin) → gone ≤ place → AreSettledFrom (suc place) back pins
    → AreSettledFrom place back (map (moved_over gone) pins)
shift gone place [] pins w is = tt
shift gone place (x ∷ []) pins w is = (tt, tt)
shift gone place (x ∷ y ∷ back) pins w is = (
  λ none. is.0 (read_over gone (suc place) pins (omega (arith, w)) none),
  shift gone (suc place) (y ∷ back) pins (omega (arith, w)) is.1,
)

merged_first : (place : ℕ) (later both : ImageMap) (back : List ImageMap) (pins : List Pin)
    → finmap.len later ≤ finmap.len both → AreSettledFrom (suc place) (later ∷ back) pins
    → AreSettledFrom place (both ∷ back) (map (moved_over (suc place)) pins)
merged_first place later both [] pins w is = (tt, tt)
merged_first place later both (y ∷ back) pins w is = (
  λ none. larger (is.0 (read_over (suc place) (suc place) pins (omega arith) none)),
  shift (suc place) (suc place) (y ∷ back) pins (omega arith) is.1,
)
  where
    larger : 2 * finmap.len y + 2 ≤ finmap.len later → 2 * finmap.len y + 2 ≤ finmap.len both
    larger h = omega (arith, h, w)

drop_front : (front rest : List ImageMap) → drop (length front) (front ++ rest) ≡ rest
drop_front [] rest = refl
drop_front (i ∷ front) rest = drop_front front rest

drop_two : (front : List ImageMap) (x : ImageMap) (rest : List ImageMap) → drop (suc (length front)) (front ++ x ∷ rest) ≡ rest
drop_two [] x rest = refl
drop_two (i ∷ front) x rest = drop_two front x rest

-- merged images are as settled as the later ones were
pub settled_merged : (place : ℕ) (kept kept' : List ImageMap) (pins : List Pin) → IsMergedAt place kept kept'
    → AreSettledFrom (suc place) (drop (suc place) kept) pins
    → AreSettledFrom place (drop place kept') (map (moved_over (suc place)) pins)
settled_merged place kept kept' pins m is =
    let was : drop (suc place) kept ≡ m.later ∷ m.back
    = ap₂ (λ n (k : List ImageMap). drop (suc n) k) (sym m.at) m.was ∙ drop_two m.front m.older (m.later ∷ m.back) in
    let now : drop place kept' ≡ m.both ∷ m.back
    = ap₂ (λ n (k : List ImageMap). drop n k) (sym m.at) m.now ∙ drop_front m.front (m.both ∷ m.back) in
    subst (λ (k : List ImageMap). AreSettledFrom place k (map (moved_over (suc place)) pins)) (sym now)
    (merged_first place m.later m.both m.back pins (later_fewer m.older m.later m.both m.merged)
    (subst (λ (k : List ImageMap). AreSettledFrom (suc place) k pins) was is))

-- the last place is settled
pub settled_last : (kept : List ImageMap) (pins : List Pin) (n : ℕ) → length kept ≤ suc n
    → AreSettledFrom n (drop n kept) pins
settled_last kept pins n w = last kept n n w
  where
    last : (k : List ImageMap) (m place : ℕ) → length k ≤ suc m → AreSettledFrom place (drop m k) pins
    last [] zero place w = tt
    last [] (suc m) place w = tt
    last (x ∷ []) zero place w = (tt, tt)
    last (x ∷ y ∷ k) zero place w = absurd (omega (arith, w))
    last (x ∷ k) (suc m) place w = last k m place (omega (arith, w))
