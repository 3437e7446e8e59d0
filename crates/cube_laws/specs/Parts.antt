-- The parts of the rows that a cell covers, by their values in a dimension.
use Rattle.std.specs.Prelude.{◌≡◌, ℕ, suc, ◌<◌, Bool, true, Some, None, List, [], ◌∷◌, slice_get}
use Rattle.std.specs.List.{AllByRecursion}
use Rattle.std.specs.Option.{option_eq}
use Rattle.cube_defs.specs.Cell.{Cell}
use Rattle.cube_defs.specs.Rows.{Row, cov}
use Rattle.cube_laws.specs.Lists.{Among}

module _ {A : Type 0} (eq : A → A → Bool) where
  -- the row has the value v in dimension i
  abbrev pub has_value : ℕ → A → Row A → Bool
  has_value i v r = option_eq eq (Some v) (slice_get r.tuple i)

  -- each row that u covers has one of the values in dimension i
  abbrev pub HasAll : List (Row A) → Cell A → ℕ → List A → Type 0
  HasAll rows u i vs = AllByRecursion (λ r. (v : A) × Among v vs × (has_value i v r ≡ true)) (cov eq rows u)

-- i is the last dimension in which u has Any
pub record IsLastAny {A : Type 0} (u : Cell A) (i : ℕ) : Type 0 where
  pub any : slice_get u i ≡ Some None
  pub last : (k : ℕ) → i < k → slice_get u k ≡ Some None → ⊥

-- the number of dimensions with a value
abbrev pub value_count : {A : Type 0} → Cell A → ℕ
value_count [] = 0
value_count (None ∷ c) = value_count c
value_count (Some v ∷ c) = suc (value_count c)
