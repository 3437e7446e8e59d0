-- The children of a node in a dimension, by the places of their values in a list of codes.
use Rattle.std.specs.Prelude.{◌≡◌, ℕ, ◌<◌, ◌≤◌, Option, Some, None, List, [], ◌∷◌, length, nat_eq, slice_get, if◌then◌else◌}
use Rattle.std.specs.Ordering.{nat_cmp, eq_by_cmp}
use Rattle.cube_defs.specs.Tree.{Edge}
use Rattle.tree_laws.specs.Walk.{target_at}
use Rattle.range_query.specs.declared.children.Child.{Child}
use Rattle.range_query.specs.declared.children.TheConstants.{MAX_PLACES}

-- no code stands twice in the list
abbrev pub AreDistinct : List ℕ → Type 0
AreDistinct codes = (j k c : ℕ) → slice_get codes j ≡ Some c → slice_get codes k ≡ Some c → j ≡ k

-- the child of the value at a place
abbrev pub child_at : ℕ → List Child → Option ℕ
child_at k [] = None
child_at k (x ∷ xs) = if nat_eq x.place k then Some x.node.0 else child_at k xs

-- the children are those that the edges lead to in dimension i, by the codes of the list
pub record AreChildren (codes : List ℕ) (i : ℕ) (edges : List (Edge ℕ ℕ)) (children : List Child) : Type 0 where
  pub same : (k v : ℕ) → slice_get codes k ≡ Some v → child_at k children ≡ target_at (eq_by_cmp nat_cmp) i v edges
  pub within : (k c : ℕ) → child_at k children ≡ Some c → k < length codes

-- all of them are there, and the places of the codes are numbers of 32 bits
pub record AreRead (codes : List ℕ) (i : ℕ) (edges : List (Edge ℕ ℕ)) (children : List Child) : Type 0 where
  pub are : AreChildren codes i edges children
  pub places : length codes ≤ MAX_PLACES

-- the child is at this place, which isn't before the first
pub record IsFirst (from : ℕ) (children : List Child) (place child : ℕ) : Type 0 where
  pub is : child_at place children ≡ Some child
  pub after : from ≤ place

-- no child has a place from the first on and before the end
abbrev pub NoneBetween : ℕ → ℕ → List Child → Type 0
NoneBetween from end children = (k : ℕ) → from ≤ k → k < end → child_at k children ≡ None
