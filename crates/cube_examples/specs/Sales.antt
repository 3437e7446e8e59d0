-- A cube of four dimensions with values from outside. For each set of dimensions sqlite3 3.40.1 was asked
-- SELECT .., COUNT(*), SUM(amount), MIN(amount), MAX(amount), CASE WHEN MIN(a) = MAX(a) THEN MIN(a) END, .. FROM sales
-- GROUP BY ..
-- the last column once for each dimension, and the groups of all 16 sets were put in cell order.
use Rattle.std.specs.Prelude.{ℕ, Option, Some, None, List, [], ◌∷◌, ℤ, pos, negsuc}
use Rattle.cube_defs.specs.Cell.{Cell}
use Rattle.cube_defs.specs.Rows.{Row, Agg}
use Rattle.cube_examples.specs.Shop.{sums}

abbrev pub sale : ℕ → ℕ → ℕ → ℕ → ℕ → ℤ → Row ℕ
sale id a b c d amount = record { id = id; tuple = a ∷ b ∷ c ∷ d ∷ []; amounts = amount ∷ [] }

abbrev pub o : Option ℕ
o = None

abbrev pub at : Option ℕ → Option ℕ → Option ℕ → Option ℕ → Cell ℕ
at a b c d = a ∷ b ∷ c ∷ d ∷ []

-- a cell that covers some sale, what the sales come to, and their closure
pub record Group : Type 0 where
  pub cell : Cell ℕ
  pub agg : Agg
  pub closure : Option (Cell ℕ)

abbrev pub group : Cell ℕ → ℕ → ℤ → ℤ → ℤ → Cell ℕ → Group
group cell count sum least greatest closure
    = record { cell = cell; agg = sums count sum least greatest; closure = Some closure }

-- nine sales, the fifth and the last of one tuple; negsuc n is - (n + 1)
abbrev pub sales : List (Row ℕ)
sales =
    sale 1 0 0 0 0 (pos 5)
    ∷ sale 2 0 0 1 0 (negsuc 2)
    ∷ sale 3 0 1 0 1 (pos 7)
    ∷ sale 4 1 0 0 0 (pos 2)
    ∷ sale 5 1 1 2 1 (pos 4)
    ∷ sale 6 2 0 0 1 (negsuc 2)
    ∷ sale 7 2 1 2 1 (pos 10)
    ∷ sale 8 0 0 0 1 (pos 5)
    ∷ sale 9 1 1 2 1 (negsuc 5)
    ∷ []

abbrev pub groups : List Group
groups =
    group (at o o o o) 9 (pos 21) (negsuc 5) (pos 10) (at o o o o)
    ∷ group (at o o o (Some 0)) 3 (pos 4) (negsuc 2) (pos 5) (at o (Some 0) o (Some 0))
    ∷ group (at o o o (Some 1)) 6 (pos 17) (negsuc 5) (pos 10) (at o o o (Some 1))
    ∷ group (at o o (Some 0) o) 5 (pos 16) (negsuc 2) (pos 7) (at o o (Some 0) o)
    ∷ group (at o o (Some 0) (Some 0)) 2 (pos 7) (pos 2) (pos 5) (at o (Some 0) (Some 0) (Some 0))
    ∷ group (at o o (Some 0) (Some 1)) 3 (pos 9) (negsuc 2) (pos 7) (at o o (Some 0) (Some 1))
    ∷ group (at o o (Some 1) o) 1 (negsuc 2) (negsuc 2) (negsuc 2) (at (Some 0) (Some 0) (Some 1) (Some 0))
    ∷ group (at o o (Some 1) (Some 0)) 1 (negsuc 2) (negsuc 2) (negsuc 2) (at (Some 0) (Some 0) (Some 1) (Some 0))
    ∷ group (at o o (Some 2) o) 3 (pos 8) (negsuc 5) (pos 10) (at o (Some 1) (Some 2) (Some 1))
    ∷ group (at o o (Some 2) (Some 1)) 3 (pos 8) (negsuc 5) (pos 10) (at o (Some 1) (Some 2) (Some 1))
    ∷ group (at o (Some 0) o o) 5 (pos 6) (negsuc 2) (pos 5) (at o (Some 0) o o)
    ∷ group (at o (Some 0) o (Some 0)) 3 (pos 4) (negsuc 2) (pos 5) (at o (Some 0) o (Some 0))
    ∷ group (at o (Some 0) o (Some 1)) 2 (pos 2) (negsuc 2) (pos 5) (at o (Some 0) (Some 0) (Some 1))
    ∷ group (at o (Some 0) (Some 0) o) 4 (pos 9) (negsuc 2) (pos 5) (at o (Some 0) (Some 0) o)
    ∷ group (at o (Some 0) (Some 0) (Some 0)) 2 (pos 7) (pos 2) (pos 5) (at o (Some 0) (Some 0) (Some 0))
    ∷ group (at o (Some 0) (Some 0) (Some 1)) 2 (pos 2) (negsuc 2) (pos 5) (at o (Some 0) (Some 0) (Some 1))
    ∷ group (at o (Some 0) (Some 1) o) 1 (negsuc 2) (negsuc 2) (negsuc 2) (at (Some 0) (Some 0) (Some 1) (Some 0))
    ∷ group (at o (Some 0) (Some 1) (Some 0)) 1 (negsuc 2) (negsuc 2) (negsuc 2)
    (at (Some 0) (Some 0) (Some 1) (Some 0))
    ∷ group (at o (Some 1) o o) 4 (pos 15) (negsuc 5) (pos 10) (at o (Some 1) o (Some 1))
    ∷ group (at o (Some 1) o (Some 1)) 4 (pos 15) (negsuc 5) (pos 10) (at o (Some 1) o (Some 1))
    ∷ group (at o (Some 1) (Some 0) o) 1 (pos 7) (pos 7) (pos 7) (at (Some 0) (Some 1) (Some 0) (Some 1))
    ∷ group (at o (Some 1) (Some 0) (Some 1)) 1 (pos 7) (pos 7) (pos 7) (at (Some 0) (Some 1) (Some 0) (Some 1))
    ∷ group (at o (Some 1) (Some 2) o) 3 (pos 8) (negsuc 5) (pos 10) (at o (Some 1) (Some 2) (Some 1))
    ∷ group (at o (Some 1) (Some 2) (Some 1)) 3 (pos 8) (negsuc 5) (pos 10) (at o (Some 1) (Some 2) (Some 1))
    ∷ group (at (Some 0) o o o) 4 (pos 14) (negsuc 2) (pos 7) (at (Some 0) o o o)
    ∷ group (at (Some 0) o o (Some 0)) 2 (pos 2) (negsuc 2) (pos 5) (at (Some 0) (Some 0) o (Some 0))
    ∷ group (at (Some 0) o o (Some 1)) 2 (pos 12) (pos 5) (pos 7) (at (Some 0) o (Some 0) (Some 1))
    ∷ group (at (Some 0) o (Some 0) o) 3 (pos 17) (pos 5) (pos 7) (at (Some 0) o (Some 0) o)
    ∷ group (at (Some 0) o (Some 0) (Some 0)) 1 (pos 5) (pos 5) (pos 5) (at (Some 0) (Some 0) (Some 0) (Some 0))
    ∷ group (at (Some 0) o (Some 0) (Some 1)) 2 (pos 12) (pos 5) (pos 7) (at (Some 0) o (Some 0) (Some 1))
    ∷ group (at (Some 0) o (Some 1) o) 1 (negsuc 2) (negsuc 2) (negsuc 2) (at (Some 0) (Some 0) (Some 1) (Some 0))
    ∷ group (at (Some 0) o (Some 1) (Some 0)) 1 (negsuc 2) (negsuc 2) (negsuc 2)
    (at (Some 0) (Some 0) (Some 1) (Some 0))
    ∷ group (at (Some 0) (Some 0) o o) 3 (pos 7) (negsuc 2) (pos 5) (at (Some 0) (Some 0) o o)
    ∷ group (at (Some 0) (Some 0) o (Some 0)) 2 (pos 2) (negsuc 2) (pos 5) (at (Some 0) (Some 0) o (Some 0))
    ∷ group (at (Some 0) (Some 0) o (Some 1)) 1 (pos 5) (pos 5) (pos 5) (at (Some 0) (Some 0) (Some 0) (Some 1))
    ∷ group (at (Some 0) (Some 0) (Some 0) o) 2 (pos 10) (pos 5) (pos 5) (at (Some 0) (Some 0) (Some 0) o)
    ∷ group (at (Some 0) (Some 0) (Some 0) (Some 0)) 1 (pos 5) (pos 5) (pos 5) (at (Some 0) (Some 0) (Some 0) (Some 0))
    ∷ group (at (Some 0) (Some 0) (Some 0) (Some 1)) 1 (pos 5) (pos 5) (pos 5) (at (Some 0) (Some 0) (Some 0) (Some 1))
    ∷ group (at (Some 0) (Some 0) (Some 1) o) 1 (negsuc 2) (negsuc 2) (negsuc 2)
    (at (Some 0) (Some 0) (Some 1) (Some 0))
    ∷ group (at (Some 0) (Some 0) (Some 1) (Some 0)) 1 (negsuc 2) (negsuc 2) (negsuc 2)
    (at (Some 0) (Some 0) (Some 1) (Some 0))
    ∷ group (at (Some 0) (Some 1) o o) 1 (pos 7) (pos 7) (pos 7) (at (Some 0) (Some 1) (Some 0) (Some 1))
    ∷ group (at (Some 0) (Some 1) o (Some 1)) 1 (pos 7) (pos 7) (pos 7) (at (Some 0) (Some 1) (Some 0) (Some 1))
    ∷ group (at (Some 0) (Some 1) (Some 0) o) 1 (pos 7) (pos 7) (pos 7) (at (Some 0) (Some 1) (Some 0) (Some 1))
    ∷ group (at (Some 0) (Some 1) (Some 0) (Some 1)) 1 (pos 7) (pos 7) (pos 7) (at (Some 0) (Some 1) (Some 0) (Some 1))
    ∷ group (at (Some 1) o o o) 3 (pos 0) (negsuc 5) (pos 4) (at (Some 1) o o o)
    ∷ group (at (Some 1) o o (Some 0)) 1 (pos 2) (pos 2) (pos 2) (at (Some 1) (Some 0) (Some 0) (Some 0))
    ∷ group (at (Some 1) o o (Some 1)) 2 (negsuc 1) (negsuc 5) (pos 4) (at (Some 1) (Some 1) (Some 2) (Some 1))
    ∷ group (at (Some 1) o (Some 0) o) 1 (pos 2) (pos 2) (pos 2) (at (Some 1) (Some 0) (Some 0) (Some 0))
    ∷ group (at (Some 1) o (Some 0) (Some 0)) 1 (pos 2) (pos 2) (pos 2) (at (Some 1) (Some 0) (Some 0) (Some 0))
    ∷ group (at (Some 1) o (Some 2) o) 2 (negsuc 1) (negsuc 5) (pos 4) (at (Some 1) (Some 1) (Some 2) (Some 1))
    ∷ group (at (Some 1) o (Some 2) (Some 1)) 2 (negsuc 1) (negsuc 5) (pos 4) (at (Some 1) (Some 1) (Some 2) (Some 1))
    ∷ group (at (Some 1) (Some 0) o o) 1 (pos 2) (pos 2) (pos 2) (at (Some 1) (Some 0) (Some 0) (Some 0))
    ∷ group (at (Some 1) (Some 0) o (Some 0)) 1 (pos 2) (pos 2) (pos 2) (at (Some 1) (Some 0) (Some 0) (Some 0))
    ∷ group (at (Some 1) (Some 0) (Some 0) o) 1 (pos 2) (pos 2) (pos 2) (at (Some 1) (Some 0) (Some 0) (Some 0))
    ∷ group (at (Some 1) (Some 0) (Some 0) (Some 0)) 1 (pos 2) (pos 2) (pos 2) (at (Some 1) (Some 0) (Some 0) (Some 0))
    ∷ group (at (Some 1) (Some 1) o o) 2 (negsuc 1) (negsuc 5) (pos 4) (at (Some 1) (Some 1) (Some 2) (Some 1))
    ∷ group (at (Some 1) (Some 1) o (Some 1)) 2 (negsuc 1) (negsuc 5) (pos 4) (at (Some 1) (Some 1) (Some 2) (Some 1))
    ∷ group (at (Some 1) (Some 1) (Some 2) o) 2 (negsuc 1) (negsuc 5) (pos 4) (at (Some 1) (Some 1) (Some 2) (Some 1))
    ∷ group (at (Some 1) (Some 1) (Some 2) (Some 1)) 2 (negsuc 1) (negsuc 5) (pos 4)
    (at (Some 1) (Some 1) (Some 2) (Some 1))
    ∷ group (at (Some 2) o o o) 2 (pos 7) (negsuc 2) (pos 10) (at (Some 2) o o (Some 1))
    ∷ group (at (Some 2) o o (Some 1)) 2 (pos 7) (negsuc 2) (pos 10) (at (Some 2) o o (Some 1))
    ∷ group (at (Some 2) o (Some 0) o) 1 (negsuc 2) (negsuc 2) (negsuc 2) (at (Some 2) (Some 0) (Some 0) (Some 1))
    ∷ group (at (Some 2) o (Some 0) (Some 1)) 1 (negsuc 2) (negsuc 2) (negsuc 2)
    (at (Some 2) (Some 0) (Some 0) (Some 1))
    ∷ group (at (Some 2) o (Some 2) o) 1 (pos 10) (pos 10) (pos 10) (at (Some 2) (Some 1) (Some 2) (Some 1))
    ∷ group (at (Some 2) o (Some 2) (Some 1)) 1 (pos 10) (pos 10) (pos 10) (at (Some 2) (Some 1) (Some 2) (Some 1))
    ∷ group (at (Some 2) (Some 0) o o) 1 (negsuc 2) (negsuc 2) (negsuc 2) (at (Some 2) (Some 0) (Some 0) (Some 1))
    ∷ group (at (Some 2) (Some 0) o (Some 1)) 1 (negsuc 2) (negsuc 2) (negsuc 2)
    (at (Some 2) (Some 0) (Some 0) (Some 1))
    ∷ group (at (Some 2) (Some 0) (Some 0) o) 1 (negsuc 2) (negsuc 2) (negsuc 2)
    (at (Some 2) (Some 0) (Some 0) (Some 1))
    ∷ group (at (Some 2) (Some 0) (Some 0) (Some 1)) 1 (negsuc 2) (negsuc 2) (negsuc 2)
    (at (Some 2) (Some 0) (Some 0) (Some 1))
    ∷ group (at (Some 2) (Some 1) o o) 1 (pos 10) (pos 10) (pos 10) (at (Some 2) (Some 1) (Some 2) (Some 1))
    ∷ group (at (Some 2) (Some 1) o (Some 1)) 1 (pos 10) (pos 10) (pos 10) (at (Some 2) (Some 1) (Some 2) (Some 1))
    ∷ group (at (Some 2) (Some 1) (Some 2) o) 1 (pos 10) (pos 10) (pos 10) (at (Some 2) (Some 1) (Some 2) (Some 1))
    ∷ group (at (Some 2) (Some 1) (Some 2) (Some 1)) 1 (pos 10) (pos 10) (pos 10)
    (at (Some 2) (Some 1) (Some 2) (Some 1))
    ∷ []
