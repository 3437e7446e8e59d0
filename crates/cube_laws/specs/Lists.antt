-- Words for lists.
use Rattle.std.specs.Prelude.{◌≡◌, ◌⊎◌, List, [], ◌∷◌, ◌++◌}
use Rattle.std.specs.Bool.{⊤}

-- x is an item of the list
abbrev pub Among : {X : Type 0} → X → List X → Type 0
Among x [] = ⊥
Among x (y ∷ ys) = (x ≡ y) ⊎ Among x ys

-- the items of the one list in an order of their own: the first of them stands somewhere in the other, and so on with
-- the rest
abbrev pub Reordered : {X : Type 0} → List X → List X → Type 0
Reordered [] ys = ys ≡ []
Reordered {X} (x ∷ xs) ys = (front : List X) × (back : List X) × (ys ≡ front ++ x ∷ back) × Reordered xs (front ++ back)
