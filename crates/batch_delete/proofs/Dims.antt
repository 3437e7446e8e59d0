-- The labels of a node by their dimensions.
use Rattle.std.proofs.Common.{◌≡◌, ◌∙◌, inl, inr, ℕ, zero, suc, ◌<◌, ◌≤◌, true, false, ◌&&◌, not, Option, Some, None, List, [], ◌∷◌, nat_eq}
use Rattle.std.proofs.Common.{slice_get, take, refl, sym, ap, arith, eqb-true}
use Rattle.std.proofs.lemmas.Bool.{and_parts, cond-false, false_from_ne_true}
use Rattle.std.proofs.lemmas.Bool.Decides.{eqb_tells, nat_tests}
use Rattle.std.specs.List.{cons_option}
use Rattle.cube_defs.specs.Tree.{Edge}
use Rattle.qc_arena.specs.RecordReaders.{label_lt}
use Rattle.tree_laws.proofs.CallerLemmas.{some_same}
use Rattle.batch_delete.specs.Rests.{other_values}

lt_dims : (x y : Edge ℕ ℕ) → label_lt x y ≡ true → x.dim ≤ y.dim
lt_dims x y h = grind (arith, nat_tests)

module _ (es : List (Edge ℕ ℕ)) (rising : (i j : ℕ) (e f : Edge ℕ ℕ) → i < j → slice_get es i ≡ Some e
    → slice_get es j ≡ Some f → label_lt e f ≡ true) (m : ℕ) (y : Edge ℕ ℕ) (at : slice_get es m ≡ Some y) where
  -- dimensions rise from place to place
  pub up_to : (k : ℕ) (x : Edge ℕ ℕ) → k ≤ m → slice_get es k ≡ Some x → x.dim ≤ y.dim
  up_to k x l h = elim (eqb_tells k m) [
    | inl e ↦ let same : x ≡ y = some_same (sym h ∙ ap (slice_get es) e.1 ∙ at) in
        let dims = ap (λ (z : Edge ℕ ℕ). z.dim) same in omega arith
    | inr e ↦ let less : k < m = omega (arith, e.1) in lt_dims x y (rising k m x y less h at)
  ]

  pub from_on : (k : ℕ) (x : Edge ℕ ℕ) → m ≤ k → slice_get es k ≡ Some x → y.dim ≤ x.dim
  from_on k x l h = elim (eqb_tells k m) [
    | inl e ↦ let same : x ≡ y = some_same (sym h ∙ ap (slice_get es) e.1 ∙ at) in
        let dims = ap (λ (z : Edge ℕ ℕ). z.dim) same in omega arith
    | inr e ↦ let less : m < k = omega (arith, e.1) in lt_dims y x (rising m k y x less at h)
  ]

module _ (i v : ℕ) where
  elsewhere : (y : Edge ℕ ℕ) → (y.dim ≡ i → ⊥) → (nat_eq y.dim i && not (nat_eq y.value v)) ≡ false
  elsewhere y h = false_from_ne_true _
      (λ e. h (eqb-true y.dim i (and_parts (nat_eq y.dim i) (not (nat_eq y.value v)) e).0))

  -- labels of other dimensions add no value
  pub none_taken : (es : List (Edge ℕ ℕ)) (n : ℕ)
      → ((k : ℕ) (x : Edge ℕ ℕ) → k < n → slice_get es k ≡ Some x → x.dim < i) → other_values i v (take n es) ≡ []
  none_taken [] zero h = refl
  none_taken [] (suc n) h = refl
  none_taken (x ∷ es) zero h = refl
  none_taken (x ∷ es) (suc n) h =
      let low = h 0 x (omega arith) refl in
      ap (λ (o : Option ℕ). cons_option o (other_values i v (take n es)))
      (cond-false _ (Some x.value) None (elsewhere x (λ e. omega arith)))
      ∙ none_taken es n (λ k y l e. h (suc k) y (omega arith) e)

  none_there : (es : List (Edge ℕ ℕ)) → ((k : ℕ) (x : Edge ℕ ℕ) → slice_get es k ≡ Some x → i < x.dim)
      → other_values i v es ≡ []
  none_there [] h = refl
  none_there (x ∷ es) h =
      let high = h 0 x refl in
      ap (λ (o : Option ℕ). cons_option o (other_values i v es))
      (cond-false _ (Some x.value) None (elsewhere x (λ e. omega arith)))
      ∙ none_there es (λ k y e. h (suc k) y e)

  pub all_taken : (es : List (Edge ℕ ℕ)) (n : ℕ)
      → ((k : ℕ) (x : Edge ℕ ℕ) → n ≤ k → slice_get es k ≡ Some x → i < x.dim)
      → other_values i v (take n es) ≡ other_values i v es
  all_taken [] zero h = refl
  all_taken [] (suc n) h = refl
  all_taken (x ∷ es) zero h = sym (none_there (x ∷ es) (λ k y e. h k y (omega arith) e))
  all_taken (x ∷ es) (suc n) h = ap (cons_option _) (all_taken es n (λ k y l e. h (suc k) y (omega arith) e))
