-- From one cell that generalizes a cell up to another, value by value.
use Rattle.std.proofs.Common.{◌≡◌, ◌≢◌, ℕ, suc, ◌<◌, ◌≤◌, Bool, true, false, not, Option, Some, None, [], ◌∷◌, length, refl, sym, ap, ap₂}
use Rattle.std.proofs.Common.{◌∙◌, subst, arith, nat_eq, eqb-true, eq-eqb, true≢false}
use Rattle.std.specs.Prelude.{if◌then◌else◌}
use Rattle.std.proofs.lemmas.Bool.{and_parts, and_from}
use Rattle.cube_defs.specs.Cell.{Cell, entry_leq, leq}
use Rattle.cube_laws.proofs.CallerLemmas.{IsEquality}
use Rattle.cells_below.specs.Numbers.{cell_of_number, has_bit, turned}
use Rattle.cube_laws.specs.Parts.{value_count}
use Rattle.cells_below.proofs.CallerLemmas.{none_kept, same_cell, turned_other, turned_same}

module _ {A : Type 0} {eq : A → A → Bool} (law : IsEquality eq) where
  -- a bit that the number misses, whose value q has, where the number's cell generalizes q, which generalizes u
  abbrev pub Step : Cell A → Cell A → ℕ → Type 0
  Step u q m = (k : ℕ) × (k < value_count u) × (has_bit m k ≡ false) × (leq eq (cell_of_number u (turned m k)) q ≡ true)

  same_value : (v w : A) → eq w v ≡ true → Some v ≡ Some w
  same_value v w h = ap (λ x. Some x) (sym (law.exact w v h))

  -- after an entry that both have
  behind : (e f : Option A) (u q : Cell A) (m : ℕ)
      → ((k : ℕ) → k < value_count u → entry_leq eq (if has_bit (turned m k) (value_count u) then e else None) f ≡ true)
      → value_count u < suc (value_count (e ∷ u)) → Step u q m → Step (e ∷ u) (f ∷ q) m
  behind e f u q m head more (k, l, out, low) = (k, omega arith, out, and_from _ _ (head k l) low)

  pub step_up : (u q : Cell A) (m : ℕ) → leq eq (cell_of_number u m) q ≡ true → leq eq q u ≡ true → length q ≡ length u
      → cell_of_number u m ≢ q → Step u q m
  step_up [] [] m h k l ne = absurd (ne refl)
  step_up [] (f ∷ q) m h k l ne = absurd (omega arith)
  step_up (e ∷ u) [] m h k l ne = absurd (omega arith)
  step_up (None ∷ u) (None ∷ q) m h k l ne =
      let p = and_parts (entry_leq eq (if has_bit m (value_count u) then None else None) None) _ h in
      behind None None u q m (λ j w. ap (λ e. entry_leq eq e None) (none_kept (has_bit (turned m j) (value_count u))))
      (omega arith)
      (step_up u q m p.1 k (omega arith) (λ s. ne (ap₂ (λ x c. x ∷ c) (none_kept (has_bit m (value_count u))) s)))
  step_up (None ∷ u) (Some w ∷ q) m h k l ne = absurd (true≢false (sym k))
  step_up (Some v ∷ u) (f ∷ q) m h k l ne = go (step_up u q m) (has_bit m (value_count u)) refl f h k ne
    where
      stays : (j : ℕ) → j < value_count u → has_bit (turned m j) (value_count u) ≡ has_bit m (value_count u)
      stays j w = let apart : value_count u ≢ j = omega arith in turned_other m j (value_count u) apart

      go : (leq eq (cell_of_number u m) q ≡ true → leq eq q u ≡ true → length q ≡ length u → cell_of_number u m ≢ q
          → Step u q m) → (b : Bool) → has_bit m (value_count u) ≡ b → (f : Option A)
          → (leq eq (cell_of_number (Some v ∷ u) m) (f ∷ q) ≡ true) → leq eq (f ∷ q) (Some v ∷ u) ≡ true
          → cell_of_number (Some v ∷ u) m ≢ f ∷ q → Step (Some v ∷ u) (f ∷ q) m
      go up true e None h k ne =
          absurd (true≢false (sym (sym (ap (λ b. entry_leq eq (if b then Some v else None) None) e)
          ∙ (and_parts (entry_leq eq (if has_bit m (value_count u) then Some v else None) None) _ h).0)))
      go up true e (Some w) h k ne =
          let p = and_parts (entry_leq eq (if has_bit m (value_count u) then Some v else None) (Some w)) _ h in
          let same : eq v w ≡ true = sym (ap (λ b. entry_leq eq (if b then Some v else None) (Some w)) e) ∙ p.0 in
          let own : (if has_bit m (value_count u) then Some v else None) ≡ Some w
          = ap (λ b. if b then Some v else None) e ∙ ap (λ x. Some x) (law.exact v w same) in
          behind (Some v) (Some w) u q m (λ j l. ap (λ b. entry_leq eq (if b then Some v else None) (Some w)) (stays j l
          ∙ e) ∙ same) (omega arith)
          (up p.1 (and_parts (eq w v) _ k).1 (omega arith) (λ s. ne (ap₂ (λ x c. x ∷ c) own s)))
      go up false e None h k ne =
          let p = and_parts (entry_leq eq (if has_bit m (value_count u) then Some v else None) None) _ h in
          behind (Some v) None u q m (λ j l. ap (λ b. entry_leq eq (if b then Some v else None) None) (stays j l ∙ e))
          (omega arith)
          (up p.1 k (omega arith) (λ s. ne (ap₂ (λ x c. x ∷ c) (ap (λ b. if b then Some v else None) e) s)))
      go up false e (Some w) h k ne =
          let p = and_parts (entry_leq eq (if has_bit m (value_count u) then Some v else None) (Some w)) _ h in
          let same : eq v w ≡ true
          = subst (λ x. eq x w ≡ true) (law.exact w v (and_parts (eq w v) _ k).0) (law.same w) in (
            value_count u,
            omega arith,
            e,
            and_from _ _ (ap (λ b. entry_leq eq (if b then Some v else None) (Some w)) (turned_same m (value_count u)
                ∙ ap not e) ∙ same)
                (subst (λ c. leq eq c q ≡ true)
                (same_cell u m (turned m (value_count u)) (λ j l. let apart : j ≢ value_count u = omega arith in
                sym (turned_other m (value_count u) j apart))) p.1),
          )

  -- a cell that generalizes another is no longer
  pub leq-length : (c d : Cell A) → leq eq c d ≡ true → length c ≤ length d
  leq-length [] d h = omega arith
  leq-length (e ∷ c) [] h = absurd (true≢false (sym h))
  leq-length (e ∷ c) (f ∷ d) h = let l = leq-length c d (and_parts (entry_leq eq e f) (leq eq c d) h).1 in omega arith

  pub length-cell : (u : Cell A) (m : ℕ) → length (cell_of_number u m) ≡ length u
  length-cell [] m = refl
  length-cell (e ∷ u) m = ap suc (length-cell u m)

  -- one bit more makes another cell
  pub not_below : (u : Cell A) (m k : ℕ) → k < value_count u → has_bit m k ≡ false
      → leq eq (cell_of_number u (turned m k)) (cell_of_number u m) ≡ true → ⊥
  not_below [] m k l e h = absurd (omega arith)
  not_below (None ∷ u) m k l e h = not_below u m k l e (and_parts _ _ h).1
  not_below (Some v ∷ u) m k l e h = go (not_below u m k) (nat_eq k (value_count u)) refl
    where
      p : (entry_leq eq (if has_bit (turned m k) (value_count u) then Some v else None) (if has_bit m (value_count u)
          then Some v else None) ≡ true) × (leq eq (cell_of_number u (turned m k)) (cell_of_number u m) ≡ true)
      p = and_parts _ _ h

      go : (k < value_count u → has_bit m k ≡ false → leq eq (cell_of_number u (turned m k)) (cell_of_number u m) ≡ true
          → ⊥) → (b : Bool) → nat_eq k (value_count u) ≡ b → ⊥
      go more true s =
          let at : k ≡ value_count u = eqb-true k (value_count u) s in
          let has : has_bit (turned m k) (value_count u) ≡ true = ap (has_bit (turned m k)) (sym at)
          ∙ turned_same m k ∙ ap not e in
          let lacks : has_bit m (value_count u) ≡ false = ap (has_bit m) (sym at) ∙ e in
          true≢false (sym p.0 ∙ ap₂
          (λ b d. entry_leq eq (if b then Some v else None) (if d then Some v else None)) has lacks)
      go more false s = let ne : k ≢ value_count u = λ t. true≢false (sym (eq-eqb k (value_count u) t) ∙ s) in
          more (omega arith) e p.1
