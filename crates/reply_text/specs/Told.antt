-- A cell's codes have texts in one way at most.
use Rattle.std.specs.Prelude.{ℕ, List, [], ◌∷◌, Some, None}
use Rattle.std.specs.Coded.{×_prop, Unit-prop, le_prop}
use Rattle.cube_defs.specs.Cell.{Cell}
use Rattle.cube_defs.specs.Text.{Text}
use Rattle.value_dict.specs.Decoded.{HasTexts}

pub texts-prop : (lists : List (List Text)) (cell : Cell ℕ) → IsProp (HasTexts lists cell)
texts-prop lists [] = Unit-prop
texts-prop [] (entry ∷ cell) = λ p q. absurd p
texts-prop (texts ∷ lists) (None ∷ cell) = texts-prop lists cell
texts-prop (texts ∷ lists) (Some code ∷ cell) = ×_prop le_prop (texts-prop lists cell)
