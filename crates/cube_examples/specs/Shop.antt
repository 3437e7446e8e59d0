-- A small shop, over any values: what its rows are, and by hand what its tree is.
use Rattle.std.specs.Prelude.{ℕ, Option, Some, None, List, [], ◌∷◌, ◌++◌, ℤ, pos}
use Rattle.cube_defs.specs.Cell.{Cell}
use Rattle.cube_defs.specs.Rows.{Row, Agg, Fraction}
use Rattle.cube_defs.specs.Tree.{Node, Edge}
use Rattle.cube_defs.specs.Answers.{Ask, AggKind.{Count, Sum, Mean}, Bound.{AtLeast, AtMost}, ClassHit, Hit}

-- the values of the three dimensions
pub record ShopValues (A : Type 0) : Type 0 where
  pub S1 : A
  pub S2 : A
  pub P1 : A
  pub P2 : A
  pub s : A
  pub f : A

-- an aggregate of one measure
abbrev pub sums : ℕ → ℤ → ℤ → ℤ → Agg
sums count sum least greatest
    = record { count = count; parts = record { sum = sum; least = least; greatest = greatest } ∷ [] }

module _ {A : Type 0} where
  abbrev pub any : Option A
  any = None

  abbrev pub row : ℕ → A → A → A → ℤ → Row A
  row id store product season sale = record { id = id; tuple = store ∷ product ∷ season ∷ []; amounts = sale ∷ [] }

  abbrev pub cell : Option A → Option A → Option A → Cell A
  cell store product season = store ∷ product ∷ season ∷ []

  abbrev pub edge : ℕ → A → Cell A → Edge A (Cell A)
  edge dim value target = record { dim = dim; value = value; target = target }

  -- a node that is a class
  abbrev pub class : Cell A → Option (Cell A) → Agg → List (Edge A (Cell A)) → Node A (Cell A)
  class cell parent agg edges = record { cell = cell; parent = parent; class = Some agg; forced = None; edges = edges }

  -- a node that is none, with its forced child
  abbrev pub inner : Cell A → Cell A → Edge A (Cell A) → List (Edge A (Cell A)) → Node A (Cell A)
  inner cell parent forced edges = record {
    cell = cell;
    parent = Some parent;
    class = None;
    forced = Some forced;
    edges
        = edges ++ forced ∷ [];
  }

  abbrev pub hit : Cell A → Agg → Hit A
  hit cell agg = record { cell = cell; agg = agg }

  abbrev pub class_hit : Cell A → Agg → List (Cell A) → ClassHit A
  class_hit upper agg lowers = record { upper = upper; agg = agg; lowers = lowers }

  module _ (n : ShopValues A) where
    -- the first store's record
    abbrev pub store_record : Node A (Cell A)
    store_record =
        inner (cell (Some n.S1) any any) (cell any any any) (edge 2 n.s (cell (Some n.S1) any (Some n.s)))
        (edge 1 n.P1 (cell (Some n.S1) (Some n.P1) any) ∷ edge 1 n.P2 (cell (Some n.S1) (Some n.P2) any) ∷ [])

    abbrev pub base : List (Row A)
    base = row 1 n.S1 n.P1 n.s (pos 6) ∷ row 2 n.S1 n.P2 n.s (pos 12) ∷ row 3 n.S2 n.P1 n.f (pos 9) ∷ []

    -- one row more
    abbrev pub plus4 : List (Row A)
    plus4 = base ++ row 4 n.S2 n.P2 n.f (pos 3) ∷ []

    -- the records of the nodes of the base, where `ordered` puts what s and f label in order: 11 nodes,
    -- 10 edges to children and 5 links
    abbrev pub base_table : (Edge A (Cell A) → Edge A (Cell A) → List (Edge A (Cell A))) → List (Node A (Cell A))
    base_table ordered =
        class (cell any any any) None (sums 3 (pos 27) (pos 6) (pos 12))
        (edge 0 n.S1 (cell (Some n.S1) any any) ∷ edge 0 n.S2 (cell (Some n.S2) any any)
        ∷ edge 1 n.P1 (cell any (Some n.P1) any) ∷ edge 1 n.P2 (cell (Some n.S1) (Some n.P2) any)
        ∷ ordered (edge 2 n.s (cell (Some n.S1) any (Some n.s))) (edge 2 n.f (cell (Some n.S2) (Some n.P1) (Some n.f))))
        ∷ class (cell any (Some n.P1) any) (Some (cell any any any)) (sums 2 (pos 15) (pos 6) (pos 9))
        (ordered (edge 2 n.s (cell (Some n.S1) (Some n.P1) (Some n.s)))
        (edge 2 n.f (cell (Some n.S2) (Some n.P1) (Some n.f))))
        ∷ store_record
        ∷ class (cell (Some n.S1) any (Some n.s)) (Some (cell (Some n.S1) any any))
        (sums 2 (pos 18) (pos 6) (pos 12)) []
        ∷ inner (cell (Some n.S1) (Some n.P1) any) (cell (Some n.S1) any any)
        (edge 2 n.s (cell (Some n.S1) (Some n.P1) (Some n.s))) []
        ∷ class (cell (Some n.S1) (Some n.P1) (Some n.s)) (Some (cell (Some n.S1) (Some n.P1) any))
        (sums 1 (pos 6) (pos 6) (pos 6)) []
        ∷ inner (cell (Some n.S1) (Some n.P2) any) (cell (Some n.S1) any any)
        (edge 2 n.s (cell (Some n.S1) (Some n.P2) (Some n.s))) []
        ∷ class (cell (Some n.S1) (Some n.P2) (Some n.s)) (Some (cell (Some n.S1) (Some n.P2) any))
        (sums 1 (pos 12) (pos 12) (pos 12)) []
        ∷ inner (cell (Some n.S2) any any) (cell any any any) (edge 1 n.P1 (cell (Some n.S2) (Some n.P1) any)) []
        ∷ inner (cell (Some n.S2) (Some n.P1) any) (cell (Some n.S2) any any)
        (edge 2 n.f (cell (Some n.S2) (Some n.P1) (Some n.f))) []
        ∷ class (cell (Some n.S2) (Some n.P1) (Some n.f)) (Some (cell (Some n.S2) (Some n.P1) any))
        (sums 1 (pos 9) (pos 9) (pos 9)) []
        ∷ []

    -- the same after the fourth row: 15 nodes, 14 edges to children and 6 links
    abbrev pub plus4_table : (Edge A (Cell A) → Edge A (Cell A) → List (Edge A (Cell A))) → List (Node A (Cell A))
    plus4_table ordered =
        class (cell any any any) None (sums 4 (pos 30) (pos 3) (pos 12))
        (edge 0 n.S1 (cell (Some n.S1) any any) ∷ edge 0 n.S2 (cell (Some n.S2) any any)
        ∷ edge 1 n.P1 (cell any (Some n.P1) any) ∷ edge 1 n.P2 (cell any (Some n.P2) any)
        ∷ ordered (edge 2 n.s (cell (Some n.S1) any (Some n.s))) (edge 2 n.f (cell (Some n.S2) any (Some n.f))))
        ∷ class (cell any (Some n.P1) any) (Some (cell any any any)) (sums 2 (pos 15) (pos 6) (pos 9))
        (ordered (edge 2 n.s (cell (Some n.S1) (Some n.P1) (Some n.s)))
        (edge 2 n.f (cell (Some n.S2) (Some n.P1) (Some n.f))))
        ∷ class (cell any (Some n.P2) any) (Some (cell any any any)) (sums 2 (pos 15) (pos 3) (pos 12))
        (ordered (edge 2 n.s (cell (Some n.S1) (Some n.P2) (Some n.s)))
        (edge 2 n.f (cell (Some n.S2) (Some n.P2) (Some n.f))))
        ∷ store_record
        ∷ class (cell (Some n.S1) any (Some n.s)) (Some (cell (Some n.S1) any any))
        (sums 2 (pos 18) (pos 6) (pos 12)) []
        ∷ inner (cell (Some n.S1) (Some n.P1) any) (cell (Some n.S1) any any)
        (edge 2 n.s (cell (Some n.S1) (Some n.P1) (Some n.s))) []
        ∷ class (cell (Some n.S1) (Some n.P1) (Some n.s)) (Some (cell (Some n.S1) (Some n.P1) any))
        (sums 1 (pos 6) (pos 6) (pos 6)) []
        ∷ inner (cell (Some n.S1) (Some n.P2) any) (cell (Some n.S1) any any)
        (edge 2 n.s (cell (Some n.S1) (Some n.P2) (Some n.s))) []
        ∷ class (cell (Some n.S1) (Some n.P2) (Some n.s)) (Some (cell (Some n.S1) (Some n.P2) any))
        (sums 1 (pos 12) (pos 12) (pos 12)) []
        ∷ inner (cell (Some n.S2) any any) (cell any any any) (edge 2 n.f (cell (Some n.S2) any (Some n.f)))
        (edge 1 n.P1 (cell (Some n.S2) (Some n.P1) any) ∷ edge 1 n.P2 (cell (Some n.S2) (Some n.P2) any) ∷ [])
        ∷ class (cell (Some n.S2) any (Some n.f)) (Some (cell (Some n.S2) any any)) (sums 2 (pos 12) (pos 3) (pos 9)) []
        ∷ inner (cell (Some n.S2) (Some n.P1) any) (cell (Some n.S2) any any)
        (edge 2 n.f (cell (Some n.S2) (Some n.P1) (Some n.f))) []
        ∷ class (cell (Some n.S2) (Some n.P1) (Some n.f)) (Some (cell (Some n.S2) (Some n.P1) any))
        (sums 1 (pos 9) (pos 9) (pos 9)) []
        ∷ inner (cell (Some n.S2) (Some n.P2) any) (cell (Some n.S2) any any)
        (edge 2 n.f (cell (Some n.S2) (Some n.P2) (Some n.f))) []
        ∷ class (cell (Some n.S2) (Some n.P2) (Some n.f)) (Some (cell (Some n.S2) (Some n.P2) any))
        (sums 1 (pos 3) (pos 3) (pos 3)) []
        ∷ []

    -- the classes of two rows or more, all equal but the first
    abbrev pub twos : List (ClassHit A)
    twos =
        class_hit (cell any any any) (sums 3 (pos 27) (pos 6) (pos 12)) (cell any any any ∷ [])
        ∷ class_hit (cell any (Some n.P1) any) (sums 2 (pos 15) (pos 6) (pos 9)) (cell any (Some n.P1) any ∷ [])
        ∷ class_hit (cell (Some n.S1) any (Some n.s)) (sums 2 (pos 18) (pos 6) (pos 12))
        (cell any any (Some n.s) ∷ cell (Some n.S1) any any ∷ [])
        ∷ []

    -- the classes with a mean sale of at least 15/2: 12, 9 three times, 15/2
    abbrev pub high_means : List (ClassHit A)
    high_means =
        class_hit (cell (Some n.S1) (Some n.P2) (Some n.s)) (sums 1 (pos 12) (pos 12) (pos 12))
        (cell any (Some n.P2) any ∷ [])
        ∷ class_hit (cell any any any) (sums 3 (pos 27) (pos 6) (pos 12)) (cell any any any ∷ [])
        ∷ class_hit (cell (Some n.S1) any (Some n.s)) (sums 2 (pos 18) (pos 6) (pos 12))
        (cell any any (Some n.s) ∷ cell (Some n.S1) any any ∷ [])
        ∷ class_hit (cell (Some n.S2) (Some n.P1) (Some n.f)) (sums 1 (pos 9) (pos 9) (pos 9))
        (cell any any (Some n.f) ∷ cell (Some n.S2) any any ∷ [])
        ∷ class_hit (cell any (Some n.P1) any) (sums 2 (pos 15) (pos 6) (pos 9)) (cell any (Some n.P1) any ∷ [])
        ∷ []

    -- the classes with a sum of sales of at most 15: 6, 9, 12, 15
    abbrev pub low_sums : List (ClassHit A)
    low_sums =
        class_hit (cell (Some n.S1) (Some n.P1) (Some n.s)) (sums 1 (pos 6) (pos 6) (pos 6))
        (cell any (Some n.P1) (Some n.s) ∷ cell (Some n.S1) (Some n.P1) any ∷ [])
        ∷ class_hit (cell (Some n.S2) (Some n.P1) (Some n.f)) (sums 1 (pos 9) (pos 9) (pos 9))
        (cell any any (Some n.f) ∷ cell (Some n.S2) any any ∷ [])
        ∷ class_hit (cell (Some n.S1) (Some n.P2) (Some n.s)) (sums 1 (pos 12) (pos 12) (pos 12))
        (cell any (Some n.P2) any ∷ [])
        ∷ class_hit (cell any (Some n.P1) any) (sums 2 (pos 15) (pos 6) (pos 9)) (cell any (Some n.P1) any ∷ [])
        ∷ []

abbrev pub fraction : ℤ → ℕ → Fraction
fraction num den = record { num = num; den = den }

abbrev pub count_two : Ask
count_two = record { kind = Count; scale = 0; bound = AtLeast; value = fraction (pos 2) 1 }

abbrev pub mean_high : Ask
mean_high = record { kind = Mean 0; scale = 0; bound = AtLeast; value = fraction (pos 15) 2 }

abbrev pub sum_low : Ask
sum_low = record { kind = Sum 0; scale = 0; bound = AtMost; value = fraction (pos 15) 1 }
