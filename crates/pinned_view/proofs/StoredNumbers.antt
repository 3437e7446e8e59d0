-- Which numbers have an image in a list, as images come and as two of them become one.
use Rattle.std.proofs.Common.{◌≡◌, ◌∙◌, ℕ, ap, ap₂, refl, List, [], ◌∷◌, ◌++◌, Option, Some, None, arith, drop, length, length-append}
use Rattle.std.proofs.Common.{length-drop, sym, suc, zero}
use Rattle.std.specs.FinMap as map
use Rattle.std.specs.Option.{option_or}
use Rattle.qc_arena.specs.Map.{ImageMap}
use Rattle.pinned_view.specs.Past.{StoresNoMore, StoresNoOthers, first_image}
use Rattle.pinned_view.specs.Pins.{IsMergedAt, kept_after}
use Rattle.pinned_view.specs.declared.pins.Pin.{Pin}

both_none : {X : Type 0} (a b : Option X) → option_or a b ≡ None → (a ≡ None) × (b ≡ None)
both_none None b h = (refl, h)
both_none (Some x) b h = absurd cc

-- images that come last are the only new ones
stored_push : (kept : List ImageMap) (images : ImageMap) → StoresNoOthers kept images (kept ++ images ∷ [])
stored_push [] images q none h = ap (λ o. option_or o None) h
stored_push (i ∷ kept) images q none h =
    let two = both_none (map.get i q) (first_image kept q) none in
    ap₂ option_or two.0 (stored_push kept images q two.1 h)

pub stored_after : (pins : List Pin) (kept : List ImageMap) (images : ImageMap)
    → StoresNoOthers kept images (kept_after pins kept images)
stored_after [] kept images q none h = none
stored_after (pin ∷ pins) kept images q none h = stored_push kept images q none h

merged_none : (front back : List ImageMap) (older later both : ImageMap) (q : ℕ)
    → map.get both q ≡ option_or (map.get older q) (map.get later q)
    → first_image (front ++ older ∷ later ∷ back) q ≡ None → first_image (front ++ both ∷ back) q ≡ None
merged_none [] back older later both q put none =
    let one = both_none (map.get older q) (option_or (map.get later q) (first_image back q)) none in
    let two = both_none (map.get later q) (first_image back q) one.1 in
    ap₂ option_or (put ∙ ap₂ option_or one.0 two.0) two.1
merged_none (i ∷ front) back older later both q put none =
    let two = both_none (map.get i q) (first_image (front ++ older ∷ later ∷ back) q) none in
    ap₂ option_or two.0 (merged_none front back older later both q put two.1)

pub stored_merged : (place : ℕ) (kept kept' : List ImageMap) → IsMergedAt place kept kept' → StoresNoMore kept kept'
stored_merged place kept kept' m = record {
  images = λ q none. ap (λ (k : List ImageMap). first_image k q) m.now
      ∙ merged_none m.front m.back m.older m.later m.both q (m.merged q)
      (sym (ap (λ (k : List ImageMap). first_image k q) m.was) ∙ none);
  lists = omega (
    arith,
    ap (λ (k : List ImageMap). length k) m.was,
    ap (λ (k : List ImageMap). length k) m.now,
    length-append m.front (m.older ∷ m.later ∷ m.back),
    length-append m.front (m.both ∷ m.back),
  );
}

pub stored_same : (kept : List ImageMap) → StoresNoMore kept kept
stored_same kept = record { images = λ q none. none; lists = omega arith }

-- the oldest lists go
pub stored_drop : (n : ℕ) (kept : List ImageMap) → StoresNoMore kept (drop n kept)
stored_drop n kept = record { images = λ q none. none_left n kept q none; lists = omega (arith, length-drop n kept) }
  where
    none_left : (m : ℕ) (k : List ImageMap) (q : ℕ) → first_image k q ≡ None → first_image (drop m k) q ≡ None
    none_left zero k q none = none
    none_left (suc m) [] q none = none
    none_left (suc m) (i ∷ k) q none = none_left m k q (both_none (map.get i q) (first_image k q) none).1
