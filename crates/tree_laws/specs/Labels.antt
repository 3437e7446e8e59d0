-- Where the labels of a node lead.
use Rattle.std.specs.Prelude.{◌≡◌, ℕ, suc, ◌<◌, ◌≤◌, Bool, Option, Some, None, List, [], ◌∷◌, length}
use Rattle.std.specs.Option.{option_map}
use Rattle.std.specs.declared.cmp.Ordering.{Ordering}
use Rattle.std.specs.Ordering.{eq_by_cmp}
use Rattle.cube_defs.specs.Cell.{Cell, meet, depth, upto, with_value}
use Rattle.cube_defs.specs.Rows.{Row, closure}
use Rattle.cube_defs.specs.Tree.{Edge, Node, node_with, next_value}

-- the closure of p with the value v in dimension i, cut after i, where p + (i, v) covers a row
abbrev pub target_of_label : {A : Type 0} → (A → A → Bool) → List (Row A) → Cell A → ℕ → A → Option (Cell A)
target_of_label eq rows p i v = option_map (λ u. upto u i) (closure eq rows (with_value p i v))

-- where a label with the value of a row that comes leads, whose tuple is t: from where it led, if it did
abbrev pub target_after_row : {A : Type 0} → (A → A → Bool) → Option (Cell A) → Cell A → ℕ → Cell A
target_after_row eq None t i = upto t i
target_after_row eq (Some c) t i = meet eq c t

-- the dimensions of the edges of p's record, which reaches up to the dimension e
pub record IsWithin {A : Type 0} (p : Cell A) (e : ℕ) (i : ℕ) : Type 0 where
  pub behind : depth p ≤ i
  pub before : i ≤ e
  pub within : i < length p

-- an edge of p's record
pub record IsLabel {A : Type 0} (cmp : A → A → Ordering) (rows : List (Row A)) (p : Cell A) (e : ℕ)
    (x : Edge A (Cell A)) : Type 0 where
  pub place : IsWithin p e x.dim
  pub leads : target_of_label (eq_by_cmp cmp) rows p x.dim x.value ≡ Some x.target

-- the record of the node p, whose closure is u
abbrev pub record_of : {A : Type 0} → (A → A → Ordering) → ℕ → List (Row A) → Cell A → Cell A → Node A (Cell A)
record_of cmp measures rows p u = node_with cmp measures rows p u (next_value cmp (depth p) u)

-- the first dimension in which w has a value and u has none, or the number of dimensions
abbrev pub first_new : {A : Type 0} → Cell A → Cell A → ℕ
first_new [] w = 0
first_new (e ∷ u) [] = 0
first_new (None ∷ u) (Some v ∷ w) = 0
first_new (None ∷ u) (None ∷ w) = suc (first_new u w)
first_new (Some a ∷ u) (f ∷ w) = suc (first_new u w)
