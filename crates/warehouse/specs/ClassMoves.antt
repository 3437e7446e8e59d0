-- How far the classes of a tree are handed on to new children, as they are gone through.
use Rattle.std.specs.Prelude.{ℕ, Bool, true, false, ◌≡◌, ◌⊎◌, ◌<◌, ◌≤◌, ◌+◌, List, Some, None, length, is_some, nat_eq, slice_get, take}
use Rattle.std.specs.FinMap as map
use Rattle.std.specs.List.{AllByRecursion, list_any}
use Rattle.std.specs.Option.{option_map}
use Rattle.std.specs.Ordering.{nat_cmp}
use Rattle.cell_core.specs.declared.cell.NodeNo.{NodeNo}
use Rattle.cube_defs.specs.Tree.{Tree}
use Rattle.qc_arena.specs.Changes.{AreClassNumbers, class_in}
use Rattle.qc_arena.specs.Map.{Arena, Known}
use Rattle.tree_laws.specs.Counts.{classes_in}
use Rattle.widen_laws.specs.Widened.{child_by_number, with_forced_value_by_number, with_any_by_number}

-- the cells have so many dimensions, and so have the labels; a class has no forced child
pub record IsWide (dims : ℕ) (tree : Tree ℕ) : Type 0 where
  pub cells : (k : ℕ) (n : Known) → map.get tree k ≡ Some n → length n.cell ≡ dims
  pub labels : (k : ℕ) (n : Known) → map.get tree k ≡ Some n → AllByRecursion (λ x. x.dim < dims) n.edges
  pub unforced : (k : ℕ) (n : Known) → map.get tree k ≡ Some n → is_some n.class ≡ true → n.forced ≡ None

-- a new child for each class is within the most nodes
abbrev pub HasRoom : Arena → Type 0
HasRoom tree = map.len tree.now + classes_in nat_cmp tree.now ≤ tree.max

-- the classes of these numbers have handed their aggregates to children, and the other nodes have Any in the new
-- dimension
pub record HasMovedClasses (done : ℕ → Bool) (dims : ℕ) (child : ℕ → ℕ) (tree wide : Tree ℕ) : Type 0 where
  pub others : (k : ℕ) (n : Known) → map.get tree k ≡ Some n → is_some n.class ≡ false
      → map.get wide k ≡ Some (with_any_by_number n)
  pub later : (k : ℕ) (n : Known) → map.get tree k ≡ Some n → done k ≡ false
      → map.get wide k ≡ Some (with_any_by_number n)
  pub classes : (k : ℕ) (n : Known) → map.get tree k ≡ Some n → is_some n.class ≡ true → done k ≡ true
      → map.get wide k ≡ Some (with_forced_value_by_number dims 0 (child k) n)
  pub children : (k : ℕ) (n : Known) → map.get tree k ≡ Some n → is_some n.class ≡ true → done k ≡ true
      → map.get wide (child k) ≡ Some (child_by_number 0 k n)
  pub fresh : (k : ℕ) (n : Known) → map.get tree k ≡ Some n → is_some n.class ≡ true → done k ≡ true
      → map.get tree (child k) ≡ None
  pub only : (q : ℕ) (m : Known) → map.get wide q ≡ Some m
      → ((n : Known) × (map.get tree q ≡ Some n))
      ⊎ ((k : ℕ) × (n : Known) × (map.get tree k ≡ Some n) × (is_some n.class ≡ true) × (done k ≡ true)
      × (q ≡ child k))

-- whether a node is in a list
abbrev pub is_listed : List NodeNo → ℕ → Bool
is_listed nodes k = list_any (λ x. nat_eq k x.0) nodes

-- the number that stands in a list in the place of another
abbrev pub heir : (ℕ → ℕ) → NodeNo → NodeNo
heir child x = record { 0 = child x.0 }

-- the first so many classes of a tree, which are all listed, have handed their aggregates to children, whose numbers
-- stand in the list in their places
pub record HaveChildren (dims place : ℕ) (tree wide : Tree ℕ) (old now : List NodeNo) : Type 0 where
  pub is_wide : IsWide dims tree
  pub listed : AreClassNumbers (λ q. class_in (map.get tree q)) old
  pub within : place ≤ length old
  pub child : ℕ → ℕ
  pub moved : HasMovedClasses (is_listed (take place old)) dims child tree wide
  pub front : (j : ℕ) → j < place → slice_get now j ≡ option_map (heir child) (slice_get old j)
  pub rest : (j : ℕ) → place ≤ j → slice_get now j ≡ slice_get old j
  pub long : length now ≡ length old
