-- What pins read as images are kept, and as two lists of images become one.
use Rattle.std.proofs.Common.{◌≡◌, ℕ, zero, suc, ◌-◌, ◌<◌, ◌≤◌, refl, sym, ap, ap₂, ◌∙◌, cond, false, List, [], ◌∷◌, ◌++◌, drop}
use Rattle.std.proofs.Common.{length, map, inl, inr, get_or, arith, true≢false, ◌||◌, Bool, length-append}
use Rattle.std.specs.Prelude.{◌==◌}
use Rattle.std.proofs.Math.ListN.{set}
use Rattle.std.specs.FinMap as finmap
use Rattle.std.specs.List.{remove}
use Rattle.std.specs.Option.{option_or}
use Rattle.std.proofs.lemmas.Bool.{cases_lt, le-ltb, lt-ltb}
use Rattle.std.proofs.lemmas.Bool.Decides.{eqb_tells}
use Rattle.cube_defs.specs.Tree.{Tree}
use Rattle.qc_arena.specs.Map.{ImageMap, overlaid}
use Rattle.qc_arena.proofs.CallerLemmas.{over_both}
use Rattle.pinned_view.specs.Past.{with_all_images}
use Rattle.pinned_view.specs.Pins.{AreWithin, IsMergedAt, ReadSame, kept_after, moved_over, place_without, reads_from, tree_at_pin}
use Rattle.pinned_view.specs.declared.pins.Pin.{Pin}

past-append : (a b : List ImageMap) (tree : Tree ℕ)
    → with_all_images (a ++ b) tree ≡ with_all_images a (with_all_images b tree)
past-append [] b tree = refl
past-append (i ∷ a) b tree = ap (overlaid i) (past-append a b tree)

drop-push : (n : ℕ) (kept : List ImageMap) (images : ImageMap) → n ≤ length kept
    → drop n (kept ++ images ∷ []) ≡ drop n kept ++ images ∷ []
drop-push zero kept images w = refl
drop-push (suc n) [] images w = absurd (omega arith)
drop-push (suc n) (i ∷ kept) images w = drop-push n kept images (omega arith)

-- images that come last are read first of all
past-push : (n : ℕ) (kept : List ImageMap) (images : ImageMap) (tree : Tree ℕ) → n ≤ length kept
    → with_all_images (drop n (kept ++ images ∷ [])) tree ≡ with_all_images (drop n kept) (overlaid images tree)
past-push n kept images tree w = ap (λ (k : List ImageMap). with_all_images k tree) (drop-push n kept images w)
    ∙ past-append (drop n kept) (images ∷ []) tree

pushed : (kept : List ImageMap) (images : ImageMap) (tree : Tree ℕ) (pins : List Pin) → AreWithin (length kept) pins
    → ReadSame kept (overlaid images tree) (kept ++ images ∷ []) tree pins
pushed kept images tree [] within = tt
pushed kept images tree (pin ∷ pins) within
    = (past-push pin.from kept images tree within.0, pushed kept images tree pins within.1)

-- after a change pins read the same under its images
pub read_after : (pins : List Pin) (kept : List ImageMap) (images : ImageMap) (tree : Tree ℕ) → AreWithin (length kept) pins
    → ReadSame kept (overlaid images tree) (kept_after pins kept images) tree pins
read_after [] kept images tree within = tt
read_after (pin ∷ pins) kept images tree within = pushed kept images tree (pin ∷ pins) within

more_within : (n m : ℕ) (pins : List Pin) → n ≤ m → AreWithin n pins → AreWithin m pins
more_within n m [] w within = tt
more_within n m (pin ∷ pins) w within = (omega (arith, w, within.0), more_within n m pins w within.1)

pub within_after : (pins : List Pin) (kept : List ImageMap) (images : ImageMap) → AreWithin (length kept) pins
    → AreWithin (length (kept_after pins kept images)) pins
within_after [] kept images within = tt
within_after (pin ∷ pins) kept images within = more_within (length kept) (length (kept ++ images ∷ [])) (pin ∷ pins)
    (omega (arith, length-append kept (images ∷ []))) within

-- what is at hand of two lists that become one
pub merged_at : (items : List ImageMap) (n : ℕ) (later older both : ImageMap) → suc n < length items
    → later ≡ get_or items (suc n) later → older ≡ get_or (remove items (suc n)) n older
    → ((q : ℕ) → finmap.get both q ≡ option_or (finmap.get older q) (finmap.get later q))
    → IsMergedAt n items (set (remove items (suc n)) n both)
merged_at [] n later older both w l o law = absurd (omega (arith, w))
merged_at (x ∷ []) n later older both w l o law = absurd (omega (arith, w))
merged_at (x ∷ y ∷ items) zero later older both w l o law = record {
  front = [];
  older = older;
  later = later;
  both = both;
  back = items;
  was = ap₂ (λ (a b : ImageMap). a ∷ b ∷ items) (sym o) (sym l);
  now = refl;
  at = refl;
  merged = law;
}
merged_at (x ∷ y ∷ items) (suc n) later older both w l o law =
    let m = merged_at (y ∷ items) n later older both (omega (arith, w)) l o law in
    record {
      front = x ∷ m.front;
      older = m.older;
      later = m.later;
      both = m.both;
      back = m.back;
      was = ap (λ (k : List ImageMap). x ∷ k) m.was;
      now = ap (λ (k : List ImageMap). x ∷ k) m.now;
      at = omega (arith, m.at);
      merged = m.merged;
    }

module _ (older later both : ImageMap) (back : List ImageMap)
    (law : (tree : Tree ℕ) → overlaid both tree ≡ overlaid older (overlaid later tree)) where
  low : (n : ℕ) (front : List ImageMap) (tree : Tree ℕ) → n ≤ length front
      → with_all_images (drop n (front ++ both ∷ back)) tree ≡ with_all_images (drop n (front ++ older ∷ later ∷ back)) tree
  low zero [] tree w = law (with_all_images back tree)
  low zero (i ∷ front) tree w = ap (overlaid i) (low zero front tree (omega arith))
  low (suc n) [] tree w = absurd (omega (arith, w))
  low (suc n) (i ∷ front) tree w = low n front tree (omega (arith, w))

  high : (n : ℕ) (front : List ImageMap) → length front < n
      → drop n (front ++ both ∷ back) ≡ drop (suc n) (front ++ older ∷ later ∷ back)
  high zero front w = absurd (omega (arith, w))
  high (suc n) [] w = refl
  high (suc n) (i ∷ front) w = high n front (omega (arith, w))

  -- what is read from a place other than that of the later images
  read_without : (front : List ImageMap) (n : ℕ) (tree : Tree ℕ) → (n ≡ suc (length front) → ⊥)
      → with_all_images (drop (place_without (suc (length front)) n) (front ++ both ∷ back)) tree
      ≡ with_all_images (drop n (front ++ older ∷ later ∷ back)) tree
  read_without front n tree other = elim (cases_lt (suc (length front)) n) [
    | inl lt ↦
        let after : suc (n - 1) ≡ n = omega (arith, lt) in
        ap (λ b. with_all_images (drop (cond b (n - 1) n) (front ++ both ∷ back)) tree) (lt-ltb _ _ lt)
        ∙ ap (λ (k : List ImageMap). with_all_images k tree) (high (n - 1) front (omega (arith, lt)))
        ∙ ap (λ m. with_all_images (drop m (front ++ older ∷ later ∷ back)) tree) after
    | inr le ↦ ap (λ b. with_all_images (drop (cond b (n - 1) n) (front ++ both ∷ back)) tree) (le-ltb _ _ le)
        ∙ low n front tree (omega (arith, le, other))
  ]

no_pin : (n place : ℕ) (rest : Bool) → (n == place || rest) ≡ false → (n ≡ place → ⊥) × (rest ≡ false)
no_pin n place rest none = elim (eqb_tells n place) [
  | inl s ↦ absurd (true≢false (sym (ap (λ b. b || rest) s.0) ∙ none))
  | inr s ↦ (s.1, sym (ap (λ b. b || rest) s.0) ∙ none)
]

-- each pin reads the same after a merge of images of which no pin reads the later ones first
pub merged_reads : (place : ℕ) (kept kept' : List ImageMap) (pins : List Pin) (tree : Tree ℕ) → IsMergedAt place kept kept'
    → reads_from pins (suc place) ≡ false
    → map (tree_at_pin kept' tree) (map (moved_over (suc place)) pins) ≡ map (tree_at_pin kept tree) pins
merged_reads place kept kept' [] tree m none = refl
merged_reads place kept kept' (pin ∷ pins) tree m none =
    let two = no_pin pin.from (suc place) (reads_from pins (suc place)) none in
    let law = λ (t : Tree ℕ). sym (over_both m.older m.later m.both t m.merged) in
    let one : with_all_images (drop (place_without (suc place) pin.from) kept') tree
    ≡ with_all_images (drop pin.from kept) tree
    = ap₂ (λ n (k : List ImageMap). with_all_images (drop (place_without (suc n) pin.from) k) tree) (sym m.at) m.now
    ∙ read_without m.older m.later m.both m.back law m.front pin.from tree
    (λ e. two.0 (omega (arith, e, m.at)))
    ∙ ap (λ (k : List ImageMap). with_all_images (drop pin.from k) tree) (sym m.was) in
    ap₂ (λ (t : Tree ℕ) (ts : List (Tree ℕ)). t ∷ ts) one (merged_reads place kept kept' pins tree m two.1)
