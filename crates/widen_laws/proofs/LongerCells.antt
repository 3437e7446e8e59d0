-- Cells with one entry more.
use Rattle.std.proofs.Common.{◌≡◌, ℕ, zero, suc, ◌<◌, ◌≤◌, Bool, true, false, [], ◌∷◌, ◌++◌, Option, Some, None, length, refl, ap, ◌∙◌}
use Rattle.std.proofs.Common.{arith}
use Rattle.std.specs.Prelude.{◌&&◌}
use Rattle.std.specs.Option.{option_eq}
use Rattle.cube_defs.specs.Cell.{Cell, cell_eq, cell_prefix, depth, entry_leq, entry_meet, leq, meet, depth_with, with_value}

and-true : (a : Bool) → (a && true) ≡ a
and-true true = refl
and-true false = refl

and-assoc : (a b c : Bool) → (a && (b && c)) ≡ ((a && b) && c)
and-assoc true b c = refl
and-assoc false b c = refl

module _ {A : Type 0} (eq : A → A → Bool) where
  pub leq-longer : (c d : Cell A) (e f : Option A) → length c ≡ length d
      → leq eq (c ++ e ∷ []) (d ++ f ∷ []) ≡ (leq eq c d && entry_leq eq e f)
  leq-longer [] [] e f h = and-true (entry_leq eq e f)
  leq-longer [] (y ∷ d) e f h = absurd (omega arith)
  leq-longer (x ∷ c) [] e f h = absurd (omega arith)
  leq-longer (x ∷ c) (y ∷ d) e f h = ap (λ b. entry_leq eq x y && b) (leq-longer c d e f (omega arith))
      ∙ and-assoc (entry_leq eq x y) (leq eq c d) (entry_leq eq e f)

  pub cell_eq-longer : (c d : Cell A) (e f : Option A) → length c ≡ length d
      → cell_eq eq (c ++ e ∷ []) (d ++ f ∷ []) ≡ (cell_eq eq c d && option_eq eq e f)
  cell_eq-longer [] [] e f h = and-true (option_eq eq e f)
  cell_eq-longer [] (y ∷ d) e f h = absurd (omega arith)
  cell_eq-longer (x ∷ c) [] e f h = absurd (omega arith)
  cell_eq-longer (x ∷ c) (y ∷ d) e f h = ap (λ b. option_eq eq x y && b) (cell_eq-longer c d e f (omega arith))
      ∙ and-assoc (option_eq eq x y) (cell_eq eq c d) (option_eq eq e f)

  pub meet-longer : (c d : Cell A) (e f : Option A) → length c ≡ length d
      → meet eq (c ++ e ∷ []) (d ++ f ∷ []) ≡ meet eq c d ++ entry_meet eq e f ∷ []
  meet-longer [] [] e f h = refl
  meet-longer [] (y ∷ d) e f h = absurd (omega arith)
  meet-longer (x ∷ c) [] e f h = absurd (omega arith)
  meet-longer (x ∷ c) (y ∷ d) e f h = ap (λ l. entry_meet eq x y ∷ l) (meet-longer c d e f (omega arith))

module _ {A : Type 0} where
  pub depth-any_after : (c : Cell A) → depth (c ++ None ∷ []) ≡ depth c
  depth-any_after [] = refl
  depth-any_after (e ∷ c) = ap (depth_with e) (depth-any_after c)

  deeper_suc : (e : Option A) (n : ℕ) → depth_with e (suc n) ≡ suc (suc n)
  deeper_suc None n = refl
  deeper_suc (Some v) n = refl

  pub depth-value_after : (c : Cell A) (v : A) → depth (c ++ Some v ∷ []) ≡ suc (length c)
  depth-value_after [] v = refl
  depth-value_after (e ∷ c) v = ap (depth_with e) (depth-value_after c v) ∙ deeper_suc e (length c)

  -- a prefix that ends before the new entry
  pub prefix-any : (k : ℕ) (c : Cell A) (e : Option A) → k ≤ length c
      → cell_prefix k (c ++ e ∷ []) ≡ cell_prefix k c ++ None ∷ []
  prefix-any zero [] e h = refl
  prefix-any zero (x ∷ c) e h = ap (λ l. None ∷ l) (prefix-any zero c e (omega arith))
  prefix-any (suc k) [] e h = absurd (omega arith)
  prefix-any (suc k) (x ∷ c) e h = ap (λ l. x ∷ l) (prefix-any k c e (omega arith))

  pub prefix_whole : (k : ℕ) (c : Cell A) → length c ≤ k → cell_prefix k c ≡ c
  prefix_whole k [] h = refl
  prefix_whole zero (x ∷ c) h = absurd (omega arith)
  prefix_whole (suc k) (x ∷ c) h = ap (λ l. x ∷ l) (prefix_whole k c (omega arith))

  pub value-before : (c : Cell A) (i : ℕ) (w : A) (e : Option A) → i < length c
      → with_value (c ++ e ∷ []) i w ≡ with_value c i w ++ e ∷ []
  value-before [] i w e h = absurd (omega arith)
  value-before (x ∷ c) zero w e h = refl
  value-before (x ∷ c) (suc i) w e h = ap (λ l. x ∷ l) (value-before c i w e (omega arith))

  pub value_after : (c : Cell A) (w : A) (e : Option A) → with_value (c ++ e ∷ []) (length c) w ≡ c ++ Some w ∷ []
  value_after [] w e = refl
  value_after (x ∷ c) w e = ap (λ l. x ∷ l) (value_after c w e)
