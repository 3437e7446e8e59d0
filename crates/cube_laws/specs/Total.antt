-- What some rows come to, or nothing where there are none, and how these are joined.
use Rattle.std.specs.Prelude.{ℕ, ◌+◌, Bool, Option, Some, None, List, [], ◌∷◌, ◌+ℤ◌}
use Rattle.std.specs.Int.{int_min, int_max}
use Rattle.cube_defs.specs.Cell.{Cell}
use Rattle.cube_defs.specs.Rows.{Row, Agg, Part, agg_of, cov, meet_after}

abbrev pub combine_part : Part → Part → Part
combine_part p q = record {
  sum = p.sum +ℤ q.sum;
  least = int_min p.least q.least;
  greatest
      = int_max p.greatest q.greatest;
}

abbrev pub combine_parts : List Part → List Part → List Part
combine_parts [] qs = []
combine_parts (p ∷ ps) [] = []
combine_parts (p ∷ ps) (q ∷ qs) = combine_part p q ∷ combine_parts ps qs

-- the aggregate of some rows and of some others, put together
abbrev pub combine : Agg → Agg → Agg
combine a b = record { count = a.count + b.count; parts = combine_parts a.parts b.parts }

abbrev pub combine_next : Agg → Option Agg → Agg
combine_next a None = a
combine_next a (Some b) = combine a b

abbrev pub join_aggs : Option Agg → Option Agg → Option Agg
join_aggs None o = o
join_aggs (Some a) o = Some (combine_next a o)

abbrev pub join_cells : {A : Type 0} → (A → A → Bool) → Option (Cell A) → Option (Cell A) → Option (Cell A)
join_cells eq None o = o
join_cells eq (Some c) o = Some (meet_after eq c o)

-- the aggregate, where there are rows
abbrev pub agg_some : {A : Type 0} → ℕ → List (Row A) → Option Agg
agg_some measures [] = None
agg_some measures (r ∷ rows) = Some (agg_of measures (r ∷ rows))

abbrev pub agg_at : {A : Type 0} → (A → A → Bool) → ℕ → List (Row A) → Cell A → Option Agg
agg_at eq measures rows c = agg_some measures (cov eq rows c)

-- what items come to
abbrev pub total : {X M : Type 0} → (M → M → M) → M → (X → M) → List X → M
total op none f [] = none
total op none f (x ∷ xs) = op (f x) (total op none f xs)
