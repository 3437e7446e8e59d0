-- Entries whose values qualify, in order.
use Rattle.std.specs.Prelude.{ℕ, Bool, cond, List, [], ◌∷◌, filter, reverse}
use Rattle.std.specs.Ordering.{is_ge, is_le}
use Rattle.cube_defs.specs.Answers.{fraction_cmp}
use Rattle.aggregates.specs.Views.{fraction_in, ratio_in}
use Rattle.aggregates.specs.declared.fraction.Fraction.{Fraction}
use Rattle.measure_index.specs.declared.entry.IndexEntry.{IndexEntry}
use Rattle.measure_index.specs.declared.walk.Direction.{Direction}
use Rattle.measure_index.specs.declared.walk.Direction.TheVariants.{Falling, Rising}

abbrev pub is_at_least : Fraction → IndexEntry → Bool
is_at_least value e = is_ge (fraction_cmp (ratio_in e.value) (fraction_in value))

abbrev pub is_at_most : Fraction → IndexEntry → Bool
is_at_most value e = is_le (fraction_cmp (ratio_in e.value) (fraction_in value))

-- a walk: the entries that are left, how many were given, and how many were read
pub record Walking : Type 0 where
  pub left : List IndexEntry
  pub given : ℕ
  pub taken : ℕ

-- in falling order an entry qualifies with at least the bound, in rising order with at most the bound
abbrev pub passing : Direction → Fraction → IndexEntry → Bool
passing Falling bound = is_at_least bound
passing Rising bound = is_at_most bound

-- what rises, as it is read
abbrev pub directed : {X : Type 0} → Direction → List X → List X
directed Falling items = reverse items
directed Rising items = items

-- the items at the beginning that pass
abbrev pub run_of : {X : Type 0} → (X → Bool) → List X → List X
run_of test [] = []
run_of test (x ∷ xs) = cond (test x) (x ∷ run_of test xs) []

-- what is left until something doesn't qualify
abbrev pub left_of : Direction → Fraction → Bool → List IndexEntry → List IndexEntry
left_of direction bound stopped entries
    = cond stopped [] (run_of (passing direction bound) (directed direction entries))

-- all that qualify, as they are read
abbrev pub qualifying : Direction → Fraction → List IndexEntry → List IndexEntry
qualifying direction bound entries = directed direction (filter (passing direction bound) entries)
