-- Two cells compared from a dimension on.
use Rattle.std.proofs.Common.{min, ◌≡◌, ◌⊎◌, inl, inr, ℕ, zero, suc, ◌<◌, ◌≤◌, None, List, [], ◌∷◌, length, drop, get_or, refl, sym, ap}
use Rattle.std.proofs.Common.{ap₂, ◌∙◌, arith}
use Rattle.std.specs.declared.cmp.Ordering.{Ordering}
use Rattle.std.specs.declared.cmp.Ordering.TheVariants.{Less, Equal, Greater}
use Rattle.std.specs.Ordering.{nat_cmp}
use Rattle.std.specs.Option.{option_cmp, option_map}
use Rattle.std.specs.Cmp.{nat_cmp_is}
use Rattle.std.proofs.lemmas.Bool.{cases_lt}
use Rattle.std.proofs.lemmas.List.{drop_all}
use Rattle.cube_defs.specs.Text.{Text, text_cmp}
use Rattle.cube_defs.specs.Cell.{Cell, cell_cmp}
use Rattle.cube_laws.specs.Recoding.{coded_cell}
use Rattle.value_dict.specs.Recoded.{text_in}

module _ (lists : List (List Text)) (a b : Cell ℕ) where
  -- what is left to compare
  abbrev pub from : ℕ → Ordering
  from i = cell_cmp text_cmp (coded_cell (text_in lists) i (drop i a)) (coded_cell (text_in lists) i (drop i b))

  abbrev pub here : ℕ → Ordering
  here i = option_cmp text_cmp (option_map (text_in lists i) (get_or a i None))
      (option_map (text_in lists i) (get_or b i None))

  length-drop-some : {X : Type 0} (xs : List X) (i : ℕ) → i < length xs → (x : X) × (ys : List X) × (drop i xs ≡ x ∷ ys)
  length-drop-some [] i l = absurd (omega arith)
  length-drop-some (x ∷ xs) zero l = (x, xs, refl)
  length-drop-some (x ∷ xs) (suc i) l = length-drop-some xs i (omega arith)

  -- at the end of one of them the shorter comes first
  pub ends : (i m n : ℕ) → m ≡ length a → n ≡ length b → i ≤ m → i ≤ n → (m ≤ i) ⊎ (n ≤ i) → from 0 ≡ from i
      → nat_cmp m n ≡ cell_cmp text_cmp (coded_cell (text_in lists) 0 a) (coded_cell (text_in lists) 0 b)
  ends i m n e f l k some is = sym (is ∙ go (cases_lt m n))
    where
      empty : (c : Cell ℕ) → length c ≤ i → coded_cell (text_in lists) i (drop i c) ≡ []
      empty c h = ap (coded_cell (text_in lists) i) (drop_all i c h)

      go : (m < n) ⊎ (n ≤ m) → from i ≡ nat_cmp m n
      go (inl less) =
          let r = length-drop-some b i (omega (arith, f, l, less)) in
          ap₂ (cell_cmp text_cmp) (empty a (either_a some less)) (ap (coded_cell (text_in lists) i) r.2)
          ∙ nat_cmp_is m n Less less
        where
          either_a : (m ≤ i) ⊎ (n ≤ i) → m < n → length a ≤ i
          either_a (inl h) q = omega (arith, e, h)
          either_a (inr h) q = absurd (omega (arith, h, q, l))
      go (inr ge) = by (cases_lt n m)
        where
          either_b : (m ≤ i) ⊎ (n ≤ i) → length b ≤ i
          either_b (inl h) = omega (arith, f, h, ge)
          either_b (inr h) = omega (arith, f, h)

          by : (n < m) ⊎ (m ≤ n) → from i ≡ nat_cmp m n
          by (inl less) =
              let r = length-drop-some a i (omega (arith, e, k, less)) in
              ap₂ (cell_cmp text_cmp) (ap (coded_cell (text_in lists) i) r.2) (empty b (either_b some))
              ∙ nat_cmp_is m n Greater less
          by (inr le) =
              let same : m ≡ n = omega (arith, le, ge) in
              let b_end : length b ≤ i = either_b some in
              let a_end : length a ≤ i = omega (arith, b_end, e, f, same) in
              ap₂ (cell_cmp text_cmp) (empty a a_end) (empty b b_end) ∙ nat_cmp_is m n Equal same

pub least : (m n : ℕ) → (min m n ≤ m) × (min m n ≤ n) × ((m ≤ min m n) ⊎ (n ≤ min m n))
least m n = (omega arith, omega arith, elim (cases_lt m n) [ inl l ↦ inl (omega arith) | inr g ↦ inr (omega arith) ])

pub reaches : (i e m n : ℕ) → e ≡ min m n → e ≤ i → (m ≤ i) ⊎ (n ≤ i)
reaches i e m n is l = elim (least m n).2 [
  | inl h ↦ inl (omega (arith, is, h, l))
  | inr h ↦ inr (omega (arith, is, h, l))
]
