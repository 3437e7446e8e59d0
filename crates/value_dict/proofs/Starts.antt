-- The order of texts by their first bytes.
use Rattle.std.proofs.Common.{◌≡◌, ◌∙◌, ℕ, zero, suc, ◌+◌, ◌*◌, ◌<◌, ◌≤◌, false, cond, List, [], ◌∷◌, All, map, drop, get_or, refl, sym}
use Rattle.std.proofs.Common.{ap, subst, arith}
use Rattle.std.proofs.lemmas.List.{get_or-drop, length-map}
use Rattle.std.proofs.Math.ListN.{get_or-map}
use Rattle.std.specs.declared.cmp.Ordering.{Ordering}
use Rattle.std.specs.declared.cmp.Ordering.TheVariants.{Less, Equal, Greater}
use Rattle.std.specs.Ordering.{MatchOrdering, eq_by_cmp, is_eq, is_lt, nat_cmp, on, ordering_reverse, ordering_then}
use Rattle.std.specs.Cmp.{ranks}
use Rattle.std.specs.List.{dedup, dedup_from}
use Rattle.std.specs.List.Sorted.{IsSorted}
use Rattle.cube_defs.specs.Text.{Text, text_cmp}
use Rattle.value_dict.specs.Starts.{HasStart, IsBytes, followed, start_in}
use Rattle.value_dict.proofs.AskedValues.{text_total}

tail : (text : Text) → IsBytes text → IsBytes (drop 1 text)
tail text bytes k = rw (get_or-drop 1 text k 0) (bytes (1 + k))

-- the greater number stays greater
rises : (n a b : ℕ) (us vs : Text) → IsBytes us → a < b → followed a n us < followed b n vs
rises zero a b us vs bytes less = less
rises (suc n) a b us vs bytes less
    = rises n (a * 256 + get_or us 0 0) (b * 256 + get_or vs 0 0) (drop 1 us) (drop 1 vs) (tail us bytes) (omega (arith, bytes 0, less))

-- no text makes less of a number than zeros do
least : (n a b : ℕ) (text : Text) → a ≤ b → followed a n [] ≤ followed b n text
least zero a b text le = le
least (suc n) a b text le = least n (a * 256 + 0) (b * 256 + get_or text 0 0) (drop 1 text) (omega (arith, le))

before : (n a : ℕ) (us vs : Text) → IsBytes us → IsBytes vs → followed a n us < followed a n vs → text_cmp us vs ≡ Less
before zero a us vs p q less = absurd (omega (arith, less))
before (suc n) a [] [] p q less = absurd (omega (arith, less))
before (suc n) a [] (v ∷ vs) p q less = refl
before (suc n) a (u ∷ us) [] p q less = absurd (omega (arith, less, least n (a * 256 + 0) (a * 256 + u) us (omega arith)))
before (suc n) a (u ∷ us) (v ∷ vs) p q less = go (nat_cmp u v) (ranks u v)
    (λ e. before n (a * 256 + u) us vs (tail (u ∷ us) p) (tail (v ∷ vs) q)
    (subst (λ w. followed (a * 256 + u) n us < followed (a * 256 + w) n vs) (sym e) less))
  where
    go : (r : Ordering) → MatchOrdering r (u < v) (u ≡ v) (v < u) → (u ≡ v → text_cmp us vs ≡ Less)
        → ordering_then r (text_cmp us vs) ≡ Less
    go Less l rest = refl
    go Equal e rest = rest e
    go Greater g rest =
        let over : v < u = g in
        absurd (omega (arith, less, rises n (a * 256 + v) (a * 256 + u) vs us (tail (v ∷ vs) q) (omega (arith, over))))

-- the order of starts and texts is that of texts
module _ (us vs : Text) (p : IsBytes us) (q : IsBytes vs) where
  pub starts-agree : (x y : ℕ) → x ≡ start_in us → y ≡ start_in vs → text_cmp (x ∷ us) (y ∷ vs) ≡ text_cmp us vs
  starts-agree x y e f = go (nat_cmp x y) (ranks x y)
    where
      go : (r : Ordering) → MatchOrdering r (x < y) (x ≡ y) (y < x) → ordering_then r (text_cmp us vs) ≡ text_cmp us vs
      go Less l = sym (before 8 0 us vs p q (rw (← e, ← f) l))
      go Equal l = refl
      go Greater g = sym (text_total.antisymm us vs ∙ ap ordering_reverse (before 8 0 vs us q p (rw (← e, ← f) g)))

-- items with the starts of their texts
module _ {X : Type 0} (start : X → ℕ) (text : X → Text) where
  abbrev Has : X → Type 0
  Has x = HasStart (text x) (start x)

  abbrev keyed : X → Text
  keyed x = start x ∷ text x

  agree : (x y : X) → Has x → Has y → text_cmp (keyed x) (keyed y) ≡ text_cmp (text x) (text y)
  agree x y a b = starts-agree (text x) (text y) a.bytes b.bytes (start x) (start y) a.is b.is

  pub sorted-texts : (xs : List X) → All Has xs → IsSorted (on keyed text_cmp) xs → IsSorted (on text text_cmp) xs
  sorted-texts xs has sorted k d le lt = subst (λ r. is_lt r ≡ false)
      (agree (get_or xs (k + 1) d) (get_or xs k d) (has (k + 1) d lt) (has k d (omega (arith, lt)))) (sorted k d le lt)

  kept-from : (x : X) (xs : List X) → Has x → All Has xs
      → dedup_from (eq_by_cmp (on keyed text_cmp)) x xs ≡ dedup_from (eq_by_cmp (on text text_cmp)) x xs
  kept-from x [] has all = refl
  kept-from x (y ∷ xs) has all =
      let here : Has y = all 0 y (omega arith) in
      let rest : All Has xs = λ k d l. all (suc k) d (omega (arith, l)) in
      let same : eq_by_cmp (on keyed text_cmp) y x ≡ eq_by_cmp (on text text_cmp) y x = ap is_eq (agree y x here has) in
      λ i. cond (same i) (kept-from x xs has rest i) (x ∷ kept-from y xs here rest i)

  pub kept-texts : (xs : List X) → All Has xs
      → dedup (eq_by_cmp (on keyed text_cmp)) xs ≡ dedup (eq_by_cmp (on text text_cmp)) xs
  kept-texts [] all = refl
  kept-texts (x ∷ xs) all = kept-from x xs (all 0 x (omega arith)) (λ k d l. all (suc k) d (omega (arith, l)))

pub All-unmap : {X Y : Type 0} (P : Y → Type 0) (f : X → Y) (xs : List X) → All P (map f xs) → All (λ x. P (f x)) xs
All-unmap P f xs all k d l = subst P (get_or-map f xs k d) (all k (f d) (omega (arith, length-map xs f, l)))
