-- One cell for the tests.
use Rattle.std.specs.Prelude.{ℕ, None, Some, [], ◌∷◌}
use Rattle.cube_defs.specs.Cell.{Cell}

abbrev pub single : Cell ℕ
single = None ∷ Some 7 ∷ None ∷ []
