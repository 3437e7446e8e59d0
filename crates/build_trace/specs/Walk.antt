-- Fronts that the walk compares.
use Rattle.std.specs.Prelude.{ℕ, nat_eq, Bool}
use Rattle.cube_defs.specs.Cell.{Cell, cell_prefix, cell_eq}

-- both cells have the same entries before dimension k
abbrev pub same_prefix : ℕ → Cell ℕ → Cell ℕ → Bool
same_prefix k c d = cell_eq nat_eq (cell_prefix k c) (cell_prefix k d)
