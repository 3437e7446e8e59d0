-- No code stands twice where the texts of codes rise.
use Rattle.std.proofs.Common.{◌≡◌, ℕ, zero, suc, Some, None, List, [], ◌∷◌, map, slice_get, slice_index_or, refl, sym, ap, subst, ◌∙◌}
use Rattle.std.specs.declared.cmp.Ordering.{Ordering}
use Rattle.std.specs.declared.cmp.Ordering.TheVariants.{Less, Equal}
use Rattle.std.specs.Cmp.{IsTotalOrder, tied_itself}
use Rattle.std.specs.List.{AllByRecursion}
use Rattle.std.specs.List.Sorted.{IsStrictlySortedBy}
use Rattle.cube_defs.specs.Answers.{Box}
use Rattle.cube_laws.specs.Recoding.{coded_box}
use Rattle.tree_laws.proofs.CallerLemmas.{some_same}
use Rattle.value_dict.specs.Boxes.{IsOrdered}
use Rattle.range_query.specs.Children.{AreDistinct}

module _ {A : Type 0} {cmp : A → A → Ordering} (total : IsTotalOrder cmp) where
  later : (text : ℕ → A) (x : A) (codes : List ℕ) (k c : ℕ)
      → AllByRecursion (λ y. cmp x y ≡ Less) (map text codes) → slice_get codes k ≡ Some c → cmp x (text c) ≡ Less
  later text x [] k c a e = cc
  later text x (d ∷ codes) zero c a e = ap (λ n. cmp x (text n)) (sym (some_same e)) ∙ a.0
  later text x (d ∷ codes) (suc k) c a e = later text x codes k c a.1 e

  apart : (text : ℕ → A) (codes : List ℕ) (d c k : ℕ)
      → AllByRecursion (λ y. cmp (text d) y ≡ Less) (map text codes) → d ≡ c → slice_get codes k ≡ Some c → ⊥
  apart text codes d c k a e f =
      let less : cmp (text d) (text c) ≡ Less = later text (text d) codes k c a f in
      let tied : cmp (text d) (text c) ≡ Equal
      = ap (λ n. cmp (text d) (text n)) (sym e) ∙ tied_itself total (text d) in
      cc

  rises_apart : (text : ℕ → A) (codes : List ℕ) → IsStrictlySortedBy cmp (map text codes) → AreDistinct codes
  unfolding IsStrictlySortedBy
  rises_apart text [] s j k c e f = cc
  rises_apart text (d ∷ codes) s zero zero c e f = refl
  rises_apart text (d ∷ codes) s zero (suc k) c e f = absurd (apart text codes d c k s.0 (some_same e) f)
  rises_apart text (d ∷ codes) s (suc j) zero c e f = absurd (apart text codes d c j s.0 (some_same f) e)
  rises_apart text (d ∷ codes) s (suc j) (suc k) c e f = ap suc (rises_apart text codes s.1 j k c e f)

  -- a box in the order of the texts allows no code twice
  pub ordered_apart : (text : ℕ → ℕ → A) (n : ℕ) (box : Box ℕ) → IsOrdered cmp (coded_box text n box) → (i : ℕ)
      (codes : List ℕ) → slice_index_or box i None ≡ Some codes → AreDistinct codes
  ordered_apart text n [] o i codes e = absurd (none i e)
    where
      none : (i : ℕ) → slice_index_or (let b : Box ℕ = [] in b) i None ≡ Some codes → ⊥
      none zero e = cc
      none (suc i) e = cc
  ordered_apart text n (None ∷ box) o zero codes e = cc
  ordered_apart text n (Some own ∷ box) o zero codes e
      = subst (λ cs. AreDistinct cs) (some_same e) (rises_apart (text n) own o.0)
  ordered_apart text n (None ∷ box) o (suc i) codes e = ordered_apart text (suc n) box o i codes e
  ordered_apart text n (Some own ∷ box) o (suc i) codes e = ordered_apart text (suc n) box o.1 i codes e
