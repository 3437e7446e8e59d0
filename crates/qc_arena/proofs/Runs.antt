-- Numbers that are listed, and a run after them.
use Rattle.std.proofs.Common.{◌≡◌, ◌≢◌, ◌∙◌, ℕ, zero, suc, ◌+◌, ◌-◌, ◌<◌, ◌≤◌, List, [], ◌∷◌, ◌++◌, None, Some, length, length-append}
use Rattle.std.proofs.Common.{get_or, Bool, ap, ap₂, append_assoc, arith, false, inl, inr, is_lt, nat_cmp, nat_eq, refl, subst, sym, true}
use Rattle.std.specs.List.{All, range_with_len}
use Rattle.std.proofs.lemmas.List.Elements.{All-push}
use Rattle.std.specs.List.Sorted.{IsSorted}
use Rattle.std.specs.Map.{lookup}
use Rattle.std.specs.declared.cmp.Ordering.{Ordering}
use Rattle.std.specs.declared.cmp.Ordering.TheVariants.{Less, Equal, Greater}
use Rattle.std.proofs.lemmas.Bool.{cases_lt}
use Rattle.std.proofs.lemmas.List.{get_or-append_right, get_or_append_left}
use Rattle.std.proofs.lemmas.List.FromFn.{get_or-range_with_len, length-range_with_len}
use Rattle.std.specs.Prelude.{if◌then◌else◌}
use Rattle.cube_laws.proofs.CallerLemmas.{less_below}
use Rattle.qc_arena.specs.Entries.{all_new}
use Rattle.qc_arena.specs.Numbers.{run}
use Rattle.qc_arena.proofs.Looked.{new_found, new_missed}

-- a run with one number more
one_more : (a n j : ℕ) → a + n ≡ j → range_with_len a (suc n) ≡ range_with_len a n ++ j ∷ []
one_more a zero j e = let same : a ≡ j = omega arith in ap (λ (k : ℕ). k ∷ []) same
one_more a (suc n) j e = ap (λ (l : List ℕ). a ∷ l) (one_more (a + 1) n j (omega arith))

pub run_more : (first end : ℕ) → first ≤ end → run first (end + 1) ≡ run first end ++ end ∷ []
run_more first end l =
    let more : end + 1 - first ≡ suc (end - first) = omega arith in
    ap (range_with_len first) more ∙ one_more first (end - first) end (omega arith)

not_lt : (a b : ℕ) → b ≤ a → is_lt (nat_cmp a b) ≡ false
not_lt a b l = go (nat_cmp a b) refl
  where
    go : (o : Ordering) → nat_cmp a b ≡ o → is_lt o ≡ false
    go Less e = let less = less_below a b e in absurd (omega (arith, less, l))
    go Equal e = refl
    go Greater e = refl

-- what holds of all numbers that are listed, and of one more
pub all_pushed : (n first : ℕ) (b : Bool) (xs ys : List ℕ) → ys ≡ (if b then xs ++ n ∷ [] else xs)
    → All (λ k. k < first) xs → n < first → All (λ k. k < first) ys
all_pushed n first true xs ys is all l = subst (All (λ k. k < first)) (sym is) (All-push (λ k. k < first) xs n all l)
all_pushed n first false xs ys is all l = subst (All (λ k. k < first)) (sym is) all

pub push_run : (xs : List ℕ) (first end : ℕ) → first ≤ end → xs ++ run first (end + 1) ≡ (xs ++ run first end) ++ end ∷ []
push_run xs first end l = ap (λ (ys : List ℕ). xs ++ ys) (run_more first end l)
    ∙ sym (append_assoc xs (run first end) (end ∷ []))

module _ (xs : List ℕ) (first end : ℕ) where
  pub long : length (xs ++ run first end) ≡ length xs + (end - first)
  long = length-append xs (run first end)
      ∙ ap (λ (n : ℕ). length xs + n) (length-range_with_len first (end - first))

  pub at_listed : (i d : ℕ) → i < length xs → get_or (xs ++ run first end) i d ≡ get_or xs i d
  at_listed i d l = get_or_append_left xs (run first end) d i l

  pub at_run : (i d : ℕ) → length xs ≤ i → i < length xs + (end - first)
      → get_or (xs ++ run first end) i d ≡ first + (i - length xs)
  at_run i d l h = get_or-append_right xs (run first end) (length xs) i d refl l
      ∙ get_or-range_with_len first (end - first) (i - length xs) d (omega arith)

  -- all numbers are smaller than what comes after the run
  pub all_below : first ≤ end → All (λ n. n < first) xs → All (λ n. n < end) (xs ++ run first end)
  all_below l before k d h = elim (cases_lt k (length xs)) [
    | inl m ↦ omega (arith, at_listed k d m, before k d m)
    | inr m ↦ let within : k < length xs + (end - first) = omega (arith, h, long) in omega (arith, at_run k d m within)
  ]

  -- sorted numbers before a run of larger ones are sorted with it
  pub sorted_both : All (λ n. n < first) xs → IsSorted nat_cmp xs → IsSorted nat_cmp (xs ++ run first end)
  sorted_both before sorted k d low high =
      let within : k + 1 < length xs + (end - first) = omega (arith, high, long) in
      elim (cases_lt (k + 1) (length xs)) [
        | inl l ↦ ap₂ (λ a b. is_lt (nat_cmp a b)) (at_listed (k + 1) d l) (at_listed k d (omega arith))
            ∙ sorted k d low l
        | inr l ↦ ap₂ (λ a b. is_lt (nat_cmp a b)) (at_run (k + 1) d l within) refl
            ∙ not_lt _ _ (below k d (omega arith) l within)
      ]
    where
      below : (k d : ℕ) → k < length xs + (end - first) → length xs ≤ k + 1 → k + 1 < length xs + (end - first)
          → get_or (xs ++ run first end) k d ≤ first + (k + 1 - length xs)
      below k d here l h = elim (cases_lt k (length xs)) [
        | inl m ↦ omega (arith, at_listed k d m, before k d m)
        | inr m ↦ omega (arith, at_run k d m here)
      ]

  pub sorted_listed : IsSorted nat_cmp (xs ++ run first end) → IsSorted nat_cmp xs
  sorted_listed sorted k d low high =
      ap₂ (λ a b. is_lt (nat_cmp a b)) (sym (at_listed (k + 1) d high)) (sym (at_listed k d (omega arith)))
      ∙ sorted k d low (omega (arith, long, high))

  -- which numbers are there
  pub found_listed : (n i : ℕ) → i < length xs → get_or xs i 0 ≡ n
      → lookup (nat_eq n) (all_new (xs ++ run first end)) ≡ Some None
  found_listed n i l e = new_found n (xs ++ run first end) i (omega (arith, long, l)) (at_listed i 0 l ∙ e)

  pub found_run : (n : ℕ) → first ≤ n → n < end → lookup (nat_eq n) (all_new (xs ++ run first end)) ≡ Some None
  found_run n l h =
      let at = at_run (length xs + (n - first)) 0 (omega arith) (omega arith) in
      new_found n (xs ++ run first end) (length xs + (n - first)) (omega (arith, long)) (omega (arith, at))

  pub missed : (n : ℕ) → ((i d : ℕ) → i < length xs → get_or xs i d ≢ n) → (first ≤ n → n < end → ⊥)
      → lookup (nat_eq n) (all_new (xs ++ run first end)) ≡ None
  missed n listed ran = new_missed n (xs ++ run first end) (λ i d l e. elim (cases_lt i (length xs)) [
    | inl h ↦ listed i d h (sym (at_listed i d h) ∙ e)
    | inr h ↦ let within : i < length xs + (end - first) = omega (arith, long, l) in
        let at = at_run i d h within in
        ran (omega (arith, at, e)) (omega (arith, at, e, within))
  ])
