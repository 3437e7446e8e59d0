-- How often numbers stand in a list that is in order.
use Rattle.std.proofs.Common.{◌≡◌, ◌≢◌, ℕ, zero, suc, ◌+◌, ◌-◌, ◌<◌, ◌≤◌, Bool, true, false, cond, nat_eq, eqb-true, List, [], ◌∷◌, ◌++◌}
use Rattle.std.proofs.Common.{take, drop, filter, length, get_or, refl, sym, ap, ◌∙◌, subst, arith, true≢false, inl, inr}
use Rattle.std.specs.Cmp.{nat_cmp_is}
use Rattle.std.specs.List.Sorted.{IsSorted}
use Rattle.std.specs.Ordering.{nat_cmp, is_lt}
use Rattle.std.specs.declared.cmp.Ordering.TheVariants.{Less}
use Rattle.std.proofs.lemmas.List.{get_or-drop, get_or-take, length-drop, length-take-le, take-append-drop, take_more}
use Rattle.std.proofs.lemmas.Bool.{cases_lt, false_from_ne_true}
use Rattle.cube_laws.specs.Lists.{Among}
use Rattle.quotient_lattice.specs.Candidates.{times}
use Rattle.quotient_lattice.proofs.LabelsLead.{count-append, count-one}

pub times-append : (k : ℕ) (xs ys : List ℕ) → times k (xs ++ ys) ≡ times k xs + times k ys
times-append k xs ys = count-append (nat_eq k) xs ys

pub times-push : (k x : ℕ) (xs : List ℕ) → times k (xs ++ x ∷ []) ≡ times k xs + cond (nat_eq k x) 1 0
times-push k x xs = times-append k xs (x ∷ []) ∙ ap (λ n. times k xs + n) (count-one (nat_eq k) x)

pub times_none : (k : ℕ) (xs : List ℕ) → ((j : ℕ) → j < length xs → get_or xs j 0 ≢ k) → times k xs ≡ 0
times_none k [] h = refl
times_none k (x ∷ xs) h =
    let no : nat_eq k x ≡ false = false_from_ne_true _ (λ e. h 0 (omega arith) (sym (eqb-true k x e))) in
    let rest = times_none k xs (λ j l. h (suc j) (omega arith)) in
    ap (λ b. length (cond b (x ∷ filter (nat_eq k) xs) (filter (nat_eq k) xs))) no ∙ rest

pub times_among : (k : ℕ) (xs : List ℕ) → 0 < times k xs → Among k xs
times_among k [] h = absurd (omega arith)
times_among k (x ∷ xs) h = go (times_among k xs) (nat_eq k x) refl h
  where
    go : (0 < times k xs → Among k xs) → (b : Bool) → nat_eq k x ≡ b
        → 0 < length (cond b (x ∷ filter (nat_eq k) xs) (filter (nat_eq k) xs)) → Among k (x ∷ xs)
    go more true e h = inl (eqb-true k x e)
    go more false e h = inr (more h)

-- of a list in order
module _ (xs : List ℕ) (sorted : IsSorted nat_cmp xs) where
  next : (j : ℕ) → j + 1 < length xs → get_or xs j 0 ≤ get_or xs (j + 1) 0
  next j l = elim (cases_lt (get_or xs (j + 1) 0) (get_or xs j 0)) [
    | inl less ↦ absurd (true≢false (sym (lt_is _ _ less) ∙ sorted j 0 (omega arith) l))
    | inr le ↦ le
  ]
    where
      lt_is : (x y : ℕ) → x < y → is_lt (nat_cmp x y) ≡ true
      lt_is x y l = ap is_lt (sym (nat_cmp_is x y Less l))

  pub in_order : (n j : ℕ) → j + n < length xs → get_or xs j 0 ≤ get_or xs (j + n) 0
  in_order zero j l = let e : j + zero ≡ j = omega arith in
      subst (λ i. get_or xs j 0 ≤ get_or xs i 0) (sym e) (omega arith)
  in_order (suc n) j l =
      let e : (j + n) + 1 ≡ j + suc n = omega arith in
      let a = in_order n j (omega arith) in
      let b = next (j + n) (omega arith) in
      subst (λ i. get_or xs j 0 ≤ get_or xs i 0) e (omega arith)

  between : (j i : ℕ) → j ≤ i → i < length xs → get_or xs j 0 ≤ get_or xs i 0
  between j i le l = let e : j + (i - j) ≡ i = omega arith in
      subst (λ m. get_or xs j 0 ≤ get_or xs m 0) e (in_order (i - j) j (omega arith))

  abbrev so_far : ℕ → ℕ → ℕ
  so_far k i = times k (take i xs)

  pub in_all : (k i : ℕ) → times k xs ≡ so_far k i + times k (drop i xs)
  in_all k i = ap (times k) (sym (take-append-drop i xs)) ∙ times-append k (take i xs) (drop i xs)

  pub one_more : (k i : ℕ) → i < length xs → so_far k (i + 1) ≡ so_far k i + cond (nat_eq k (get_or xs i 0)) 1 0
  one_more k i l = ap (times k) (take_more xs i 0 l) ∙ times-push k (get_or xs i 0) (take i xs)

  -- after the last place of a number it doesn't stand
  pub none_behind : (i : ℕ) → i < length xs → (i + 1 < length xs → get_or xs (i + 1) 0 ≢ get_or xs i 0)
      → times (get_or xs i 0) xs ≡ so_far (get_or xs i 0) (i + 1)
  none_behind i l last =
      let x = get_or xs i 0 in
      let none : times (get_or xs i 0) (drop (i + 1) xs) ≡ 0
      = times_none (get_or xs i 0) (drop (i + 1) xs)
      (λ j m e. apart j (get_or-drop (i + 1) xs j 0) (within j m) e) in
      omega (arith, in_all (get_or xs i 0) (i + 1), none)
    where
      within : (j : ℕ) → j < length (drop (i + 1) xs) → (i + 1) + j < length xs
      within j m = omega (arith, m, length-drop (i + 1) xs)

      apart : (j : ℕ) → get_or (drop (i + 1) xs) j 0 ≡ get_or xs ((i + 1) + j) 0 → (i + 1) + j < length xs
          → get_or (drop (i + 1) xs) j 0 ≢ get_or xs i 0
      apart j is w e =
          let a = between i (i + 1) (omega arith) (omega arith) in
          let b = between (i + 1) ((i + 1) + j) (omega arith) w in
          last (omega arith) (omega (arith, a, b, is, e))

  -- before the first place of a number neither
  pub none_before : (i : ℕ) → i + 1 < length xs → get_or xs (i + 1) 0 ≢ get_or xs i 0
      → so_far (get_or xs (i + 1) 0) (i + 1) ≡ 0
  none_before i l ne = times_none (get_or xs (i + 1) 0) (take (i + 1) xs)
      (λ j m e. apart j (omega (arith, m, length-take-le (i + 1) xs (omega arith))) e)
    where
      apart : (j : ℕ) → j < i + 1 → get_or (take (i + 1) xs) j 0 ≢ get_or xs (i + 1) 0
      apart j m e =
          let a = between j i (omega arith) (omega arith) in
          let b = between i (i + 1) (omega arith) l in
          ne (omega (arith, a, b, sym (get_or-take (i + 1) xs j 0 m) ∙ e))
