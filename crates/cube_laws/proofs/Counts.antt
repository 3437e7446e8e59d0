-- How many rows cells cover decides what their closures are.
use Rattle.std.proofs.Common.{◌≡◌, ◌↔◌, ℕ, zero, suc, ◌≤◌, Bool, true, Option, Some, None, List, [], ◌∷◌, filter, length, refl, sym, ap}
use Rattle.std.proofs.Common.{ap₂, subst, ◌∙◌, true≢false, arith, slice_get}
use Rattle.std.proofs.lemmas.Bool.{and_parts}
use Rattle.std.specs.List.{AllByRecursion}
use Rattle.cube_defs.specs.Cell.{Cell, leq, entry_leq, cell_of, with_value}
use Rattle.cube_defs.specs.Rows.{Row, covers, cov, closure}
use Rattle.cube_laws.specs.Counts.{count}
use Rattle.cube_laws.specs.Parts.{has_value}
use Rattle.cube_laws.proofs.Lists.{all_map, filter_filter, filter-le, filter_all, all_passed}
use Rattle.cube_laws.proofs.Cells.{IsEquality, leq_trans}
use Rattle.cube_laws.proofs.Columns.{closure-entry}
use Rattle.cube_laws.proofs.Partition.{has_exact, has_same, cov_with}

module _ {A : Type 0} {eq : A → A → Bool} (law : IsEquality eq) where
  pub cov_above : (rows : List (Row A)) (c d : Cell A) → leq eq c d ≡ true
      → filter (covers eq d) (cov eq rows c) ≡ cov eq rows d
  cov_above rows c d h = filter_filter (covers eq d) (covers eq c) rows (λ r k. leq_trans law c d (cell_of r.tuple) h k)

  pub count_mono : (rows : List (Row A)) (c d : Cell A) → leq eq c d ≡ true → count eq rows d ≤ count eq rows c
  count_mono rows c d h =
      subst (λ l. length l ≤ count eq rows c) (cov_above rows c d h) (filter-le (covers eq d) (cov eq rows c))

  -- a greater cell that covers as many rows covers the same
  pub same_count : (rows : List (Row A)) (c d : Cell A) → leq eq c d ≡ true → count eq rows d ≡ count eq rows c
      → cov eq rows d ≡ cov eq rows c
  same_count rows c d h k = sym (cov_above rows c d h)
      ∙ filter_all (covers eq d) (cov eq rows c)
      (all_passed (covers eq d) (cov eq rows c) (ap length (cov_above rows c d h) ∙ k))

  pub all_have : (rows : List (Row A)) (k : ℕ) (v : A) → AllByRecursion (λ row. slice_get row.tuple k ≡ Some v) rows
      ↔ AllByRecursion (λ row. has_value eq k v row ≡ true) rows
  all_have rows k v = (
    λ h. all_map _ _ rows (λ r e. has_same law k v r e) h,
    λ h. all_map _ _ rows (λ r e. has_exact law k v r e) h,
  )

  -- the closure has v in dimension k where u + (k, v) covers as many rows as u
  pub count_decides : (rows : List (Row A)) (u w : Cell A) (k : ℕ) (v : A) → slice_get u k ≡ Some None
      → closure eq rows u ≡ Some w
      → (slice_get w k ≡ Some (Some v)) ↔ (count eq rows (with_value u k v) ≡ count eq rows u)
  count_decides rows u w k v any e =
      let c = closure-entry law rows u w k v e in
      let a = all_have (cov eq rows u) k v in
      let part : cov eq rows (with_value u k v) ≡ filter (has_value eq k v) (cov eq rows u)
      = cov_with law rows u k v any in
      (λ h. ap length (part ∙ filter_all _ _ (a.0 (c.0 h))), λ h. c.1 (a.1 (all_passed _ _ (ap length (sym part) ∙ h))))

  pub leq_entry : (k : ℕ) (v : A) (c d : Cell A) → leq eq c d ≡ true → slice_get c k ≡ Some (Some v)
      → slice_get d k ≡ Some (Some v)
  leq_entry k v [] d h i = cc
  leq_entry k v (e ∷ c) [] h i = absurd (true≢false (sym h))
  leq_entry zero v (e ∷ c) (f ∷ d) h i
      = ap (λ x. Some x) (entry_above e f (and_parts (entry_leq eq e f) (leq eq c d) h).0 (cc))
    where
      entry_above : (e f : Option A) → entry_leq eq e f ≡ true → e ≡ Some v → f ≡ Some v
      entry_above e f h i = grind (arith, law.exact)
  leq_entry (suc k) v (e ∷ c) (f ∷ d) h i = leq_entry k v c d (and_parts (entry_leq eq e f) (leq eq c d) h).1 i

  -- a greater cell of the same length with no new value is the same
  pub no_new : (u w : Cell A) → leq eq u w ≡ true → length u ≡ length w
      → ((k : ℕ) (v : A) → slice_get u k ≡ Some None → slice_get w k ≡ Some (Some v) → ⊥) → u ≡ w
  no_new [] [] h l f = refl
  no_new [] (x ∷ w) h l f = absurd (omega arith)
  no_new (e ∷ u) [] h l f = absurd (omega arith)
  no_new (e ∷ u) (x ∷ w) h l f =
      let p = and_parts (entry_leq eq e x) (leq eq u w) h in
      ap₂ (λ y ys. y ∷ ys) (entry_same e x p.0 (λ v a b. f 0 v (ap (λ y. Some y) a) (ap (λ y. Some y) b)))
      (no_new u w p.1 (omega arith) (λ k v a b. f (suc k) v a b))
    where
      entry_same : (e x : Option A) → entry_leq eq e x ≡ true → ((v : A) → e ≡ None → x ≡ Some v → ⊥) → e ≡ x
      entry_same None None h f = refl
      entry_same None (Some v) h f = absurd (f v refl refl)
      entry_same (Some v) None h f = absurd (true≢false (sym h))
      entry_same (Some v) (Some y) h f = ap (λ z. Some z) (law.exact v y h)
