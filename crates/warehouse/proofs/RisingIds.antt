-- Changes whose ids rise: none repeats an earlier one.
use Rattle.std.proofs.Common.{◌≡◌, ◌<◌, ◌≤◌, ◌+◌, ◌∙◌, ℕ, suc, List, [], ◌∷◌, false, refl, sym, ap, arith, subst}
use Rattle.std.proofs.Common.{length, get_or, take, drop, inl, inr}
use Rattle.std.specs.List.{list_any}
use Rattle.std.proofs.lemmas.List.{get_or-take, length-take-le}
use Rattle.std.proofs.lemmas.Bool.{cases_lt}
use Rattle.cube_defs.specs.Text.{Text}
use Rattle.csv_load.specs.Batch.{Change, Delete, Insert, change_at, id_of}
use Rattle.warehouse.specs.Batch.{first_twice, same_change, twice_from}
use Rattle.warehouse.proofs.Changes.{change-at, repeat-later}

-- changes of different ids are not the same
apart : (c d : Change Text) → id_of d < id_of c → same_change c d ≡ false
apart (Delete id) (Insert row) lt = refl
apart (Insert row) (Delete id) lt = refl
apart _ _ lt = grind (arith, lt)

none-same : (c : Change Text) (xs : List (Change Text))
    → ((j : ℕ) → j < length xs → id_of (get_or xs j (Delete 0)) < id_of c) → list_any (same_change c) xs ≡ false
none-same c [] smaller = refl
none-same c (x ∷ xs) smaller =
    let here = apart c x (smaller 0 (omega arith)) in
    let rest = none-same c xs (λ j lt. smaller (suc j) (omega (arith, lt))) in
    grind (arith, here, rest)

module _ (changes : List (Change Text)) (k last : ℕ) (within : k < length changes)
    (below : (j : ℕ) → j < k → id_of (get_or changes j (Delete 0)) ≤ last) where
  -- the next change has a larger id, so it is new
  pub new-rising : last < id_of (change_at changes (k + 1))
      → list_any (same_change (change_at changes (k + 1))) (take k changes) ≡ false
  new-rising more = none-same (change_at changes (k + 1)) (take k changes) smaller
    where
      smaller : (j : ℕ) → j < length (take k changes)
          → id_of (get_or (take k changes) j (Delete 0)) < id_of (change_at changes (k + 1))
      smaller j lt =
          let long : length (take k changes) ≡ k = length-take-le k changes (omega (arith, within)) in
          let jk : j < k = omega (arith, lt, long) in
          let low = below j jk in
          subst (λ (c : Change Text). id_of c < id_of (change_at changes (k + 1)))
          (sym (get_or-take k changes j (Delete 0) jk)) (omega (arith, low, more))

  -- and it has the largest id so far
  pub largest-rising : last ≤ id_of (change_at changes (k + 1)) → (j : ℕ) → j < k + 1
      → id_of (get_or changes j (Delete 0)) ≤ id_of (change_at changes (k + 1))
  largest-rising more j lt = elim (cases_lt j k) [
    | inl l ↦ let low = below j l in omega (arith, low, more)
    | inr l ↦
        let same : j ≡ k = omega (arith, l, lt) in
        let one : id_of (get_or changes j (Delete 0)) ≡ id_of (change_at changes (k + 1))
        = ap (λ (n : ℕ). id_of (get_or changes n (Delete 0))) same ∙ ap id_of (sym (change-at changes k)) in
        omega (arith, one)
  ]

  -- so the search for a repeat goes on
  pub rest-rising : last < id_of (change_at changes (k + 1))
      → twice_from (k + 1) (take k changes) (drop k changes) ≡ first_twice changes
      → twice_from (k + 1 + 1) (take (k + 1) changes) (drop (k + 1) changes) ≡ first_twice changes
  rest-rising more rest = sym (repeat-later changes k within (new-rising more)) ∙ rest

-- the first change is new
pub rest-first : (changes : List (Change Text)) → 0 < length changes
    → twice_from (0 + 1 + 1) (take (0 + 1) changes) (drop (0 + 1) changes) ≡ first_twice changes
rest-first changes some = sym (repeat-later changes 0 some refl)
