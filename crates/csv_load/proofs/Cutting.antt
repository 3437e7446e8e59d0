-- Texts put one after the other in a buffer.
use Rattle.std.proofs.Common.{◌≡◌, ◌<◌, ◌≤◌, ◌+◌, ◌-◌, ◌∙◌, ℕ, List, [], ◌∷◌, ◌++◌, length, get_or, refl, sym, ap, arith, map, subst, ap₂}
use Rattle.std.proofs.Common.{⊎_elim}
use Rattle.std.specs.Prelude.{slice_range}
use Rattle.std.specs.List.{range_with_len}
use Rattle.std.specs.Str.{IsCharBoundary, IsUtf8}
use Rattle.std.proofs.lemmas.List.{length_push, get_or_push, get_or_append_left, length-append}
use Rattle.std.proofs.lemmas.List.FromFn.{length-map-range_with_len, get_or-map-range_with_len, map-range_with_len_more}
use Rattle.std.proofs.lemmas.Str.{IsCharBoundary-at_seam, IsCharBoundary-end}
use Rattle.std.proofs.lemmas.Bool.Decides.{nat_tests}
use Rattle.std.proofs.lemmas.Bool.{cases_lt}
use Rattle.csv_load.proofs.Ranges.{range-append, range-after, same-below}
use Rattle.csv_load.specs.FieldTexts.{IsCut, start_at, text_between, texts_of}

pub length-texts_of : (ends bytes : List ℕ) → length (texts_of ends bytes) ≡ length ends
length-texts_of ends bytes = length-map-range_with_len (text_between ends bytes) 0 (length ends)

pub get_or-texts_of : (ends bytes : List ℕ) (k : ℕ) → k < length ends
    → get_or (texts_of ends bytes) k [] ≡ text_between ends bytes k
get_or-texts_of ends bytes k h
    = get_or-map-range_with_len (text_between ends bytes) 0 (length ends) k k [] h (omega arith)

start-push : (ends : List ℕ) (end k : ℕ) → k ≤ length ends → start_at (ends ++ end ∷ []) k ≡ start_at ends k
start-push ends end k h = grind (arith, nat_tests, get_or_append_left ends (end ∷ []) 0 (k - 1))

pub text-push : (ends bytes text : List ℕ) (end : ℕ) → IsCut ends bytes → end ≡ length bytes + length text
    → texts_of (ends ++ end ∷ []) (bytes ++ text) ≡ texts_of ends bytes ++ text ∷ []
text-push ends bytes text end cut is =
    ap (λ (n : ℕ). map (text_between (ends ++ end ∷ []) (bytes ++ text)) (range_with_len 0 n)) (length_push ends end)
    ∙ map-range_with_len_more (text_between (ends ++ end ∷ []) (bytes ++ text)) 0 (length ends)
    (length ends) (omega arith)
    ∙ ap₂ (λ (xs : List (List ℕ)) (x : List ℕ). xs ++ x ∷ [])
    (same-below [] (text_between (ends ++ end ∷ []) (bytes ++ text)) (text_between ends bytes) (length ends)
    (λ k h. ap₂ (λ (i j : ℕ). slice_range (bytes ++ text) i j) (start-push ends end k (omega arith))
    (get_or_append_left ends (end ∷ []) 0 k h) ∙ range-append bytes text _ _ (cut.rise k h) (cut.within k h)))
    (ap₂ (λ (i j : ℕ). slice_range (bytes ++ text) i j) (start-push ends end (length ends) (omega arith) ∙ cut.last)
    (get_or_push ends end 0 (length ends) refl ∙ is)
    ∙ range-after bytes text (length bytes) (length bytes + length text) refl refl)

boundary-append : (xs ys : List ℕ) (i : ℕ) → IsUtf8 ys → IsCharBoundary xs i → IsCharBoundary (xs ++ ys) i
boundary-append xs ys i utf8 at = ⊎_elim (λ lt. inside lt) (λ le. outside le) (cases_lt i (length xs))
  where
    inside : i < length xs → IsCharBoundary (xs ++ ys) i
    inside lt =
        let same : get_or (xs ++ ys) i 0 ≡ get_or xs i 0 = get_or_append_left xs ys 0 i lt in
        (omega (arith, length-append xs ys), λ h k. rw same (at.1 lt (rw same at k)))

    outside : length xs ≤ i → IsCharBoundary (xs ++ ys) i
    outside le =
        let e : length xs ≡ i = omega (arith, at.0) in
        let P : ℕ → Type 0 = λ n. IsCharBoundary (xs ++ ys) n in
        subst P e (IsCharBoundary-at_seam (xs ++ ys) xs ys refl utf8)

pub cut-push : (ends bytes text : List ℕ) (end : ℕ) → IsCut ends bytes → IsUtf8 bytes → IsUtf8 text
    → end ≡ length bytes + length text
    → IsCut (ends ++ end ∷ []) (bytes ++ text)
cut-push ends bytes text end cut whole utf8 is = record {
  last = grind (
    arith,
    nat_tests,
    length_push ends end,
    length-append bytes text,
    get_or_push ends end 0 (length ends) refl,
  );
  rise = λ k h. by_cases k (omega (arith, length_push ends end, h))
      (λ lt. omega (
        arith,
        start-push ends end k (omega arith),
        get_or_append_left ends (end ∷ []) 0 k lt,
        cut.rise k lt,
      ))
      (λ e. omega (arith, start-push ends end k (omega arith), at_end k e, begins k e));
  within = λ k h. by_cases k (omega (arith, length_push ends end, h))
      (λ lt. omega (arith, length-append bytes text, get_or_append_left ends (end ∷ []) 0 k lt, cut.within k lt))
      (λ e. omega (arith, length-append bytes text, at_end k e));
  cut = λ k h. by_cases k (omega (arith, length_push ends end, h))
      (λ lt. let P : ℕ → Type 0 = λ n. IsCharBoundary (bytes ++ text) n in
      subst P (sym (get_or_append_left ends (end ∷ []) 0 k lt)) (boundary-append bytes text _ utf8 (cut.cut k lt)))
      (λ e. let P : ℕ → Type 0 = λ n. IsCharBoundary (bytes ++ text) n in
      subst P (length-append bytes text ∙ sym (at_end k e)) (IsCharBoundary-end (bytes ++ text)));
}
  where
    by_cases : {G : Type 0} (k : ℕ) → k ≤ length ends → (k < length ends → G) → (k ≡ length ends → G) → G
    by_cases k le low high = ⊎_elim low (λ ge. high (omega arith)) (cases_lt k (length ends))

    at_end : (k : ℕ) → k ≡ length ends → get_or (ends ++ end ∷ []) k 0 ≡ length bytes + length text
    at_end k e = get_or_push ends end 0 k (sym e) ∙ is

    begins : (k : ℕ) → k ≡ length ends → start_at ends k ≡ length bytes
    begins k e = ap (start_at ends) e ∙ cut.last
