-- The shop with its texts.
use Rattle.std.specs.Prelude.{List, [], ◌∷◌, codes}
use Rattle.cube_defs.specs.Cell.{Cell}
use Rattle.cube_defs.specs.Text.{Text}
use Rattle.cube_defs.specs.Tree.{Edge}
use Rattle.cube_examples.specs.Shop.{ShopValues}

abbrev pub named : ShopValues Text
named = record { S1 = codes "S1"; S2 = codes "S2"; P1 = codes "P1"; P2 = codes "P2"; s = codes "s"; f = codes "f" }

-- the order of bytes puts f before s
abbrev pub f_first : Edge Text (Cell Text) → Edge Text (Cell Text) → List (Edge Text (Cell Text))
f_first s f = f ∷ s ∷ []
