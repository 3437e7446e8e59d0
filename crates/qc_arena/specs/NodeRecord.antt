-- What a record that is kept of a node means, and what holds of it.
use Rattle.std.specs.Prelude.{◌≡◌, ℕ, ◌<◌, List, [], ◌∷◌, Option, Some, None, length, nat_eq, replicate, if◌then◌else◌}
use Rattle.cube_defs.specs.Cell.{Cell, with_value}
use Rattle.cube_defs.specs.Rows as defs
use Rattle.aggregates.specs.declared.agg.Agg.{Agg}
use Rattle.aggregates.specs.Views.{agg_in}
use Rattle.cube_defs.specs.declared.limits.TheConstants.{MAX_MEASURES}

-- a cell with the values of some labels
abbrev pub with_labels : Cell ℕ → List (ℕ × ℕ) → Cell ℕ
with_labels c [] = c
with_labels c (label ∷ rest) = with_labels (with_value c label.0 label.1) rest

-- the cell at the end of a trail, which begins with the number of dimensions
abbrev pub cell_on : List (ℕ × ℕ) → Cell ℕ
cell_on [] = []
cell_on (first ∷ labels) = with_labels (replicate first.0 None) labels

-- the labels of a trail are of its dimensions
abbrev pub IsInside : ℕ → List (ℕ × ℕ) → Type 0
IsInside n [] = Unit {0}
IsInside n (label ∷ rest) = (label.0 < n) × IsInside n rest

abbrev pub IsTrail : List (ℕ × ℕ) → Type 0
IsTrail [] = Unit {0}
IsTrail (first ∷ labels) = IsInside first.0 labels

-- the last dimension with a value, and the value; 255 at the root
abbrev pub label_in : ℕ → ℕ → Option (ℕ × ℕ)
label_in dim code = if nat_eq dim 255 then None else Some (dim, code)

abbrev pub parent_in : ℕ → ℕ → Option ℕ
parent_in dim parent = if nat_eq dim 255 then None else Some parent

-- the class that is noted, if one is
abbrev pub class_on : List (ℕ × Agg) → Option defs.Agg
class_on [] = None
class_on (e ∷ rest) = Some (agg_in e.1)

-- its rows and measures, and no rows where there is none
abbrev pub IsHeading : List (ℕ × Agg) → ℕ → ℕ → Type 0
IsHeading [] count measures = count ≡ 0
IsHeading (e ∷ rest) count measures = (count ≡ e.1.count) × (measures ≡ e.1.measures)
    × (length e.1.parts ≡ MAX_MEASURES)
