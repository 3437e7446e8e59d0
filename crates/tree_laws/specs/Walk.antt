-- How a search walks a tree: dimension by dimension from the root.
use Rattle.std.specs.Prelude.{ℕ, zero, suc, Bool, ◌&&◌, Option, Some, None, List, [], ◌∷◌, nat_eq, slice_index_or, if◌then◌else◌}
use Rattle.std.specs.Option.{option_map, option_and_then}
use Rattle.std.specs.FinMap as map
use Rattle.cube_defs.specs.Cell.{Cell, cell_prefix, last, with_value}
use Rattle.cube_defs.specs.Rows.{Row, closure}
use Rattle.cube_defs.specs.Tree.{Edge, Node, Tree}

module _ {A : Type 0} (eq : A → A → Bool) where
  module _ {T : Type 0} where
    -- where the edge with this label leads
    abbrev pub target_at : ℕ → A → List (Edge A T) → Option T
    target_at i v [] = None
    target_at i v (x ∷ xs) = if nat_eq x.dim i && eq x.value v then Some x.target else target_at i v xs

    -- from a node with no forced child in dimension i: where it stays or leads
    abbrev pub by_entry : T → Node A T → ℕ → Option A → Option T
    by_entry k n i None = Some k
    by_entry k n i (Some v) = target_at i v n.edges

    -- to a forced child in dimension i, where no other value is asked
    abbrev pub to_child : Edge A T → Option A → Option T
    to_child x None = Some x.target
    to_child x (Some v) = if eq x.value v then Some x.target else None

    abbrev pub by_forced : T → Node A T → ℕ → Option A → Option (Edge A T) → Option T
    by_forced k n i a None = by_entry k n i a
    by_forced k n i a (Some x) = if nat_eq x.dim i then to_child x a else by_entry k n i a

    -- one dimension: on from the node k, whose record is n, where the entry a is asked in dimension i
    abbrev pub walk_on : T → Node A T → ℕ → Option A → Option T
    walk_on k n i a = by_forced k n i a n.forced

  -- on from the node k through the dimensions from i, by the entries that are asked in them
  abbrev pub walk : Tree A → Cell A → ℕ → ℕ → Option ℕ
  walk tree [] k i = Some k
  walk tree (a ∷ c) k i =
      option_and_then (λ n. option_and_then (λ l. walk tree c l (suc i)) (walk_on k n i a)) (map.get tree k)

  -- where a walk to c stands before dimension i: the prefix, i dimensions long, of the closure of c's prefix
  abbrev pub closure_prefix : List (Row A) → Cell A → ℕ → Option (Cell A)
  closure_prefix rows c i = option_map (cell_prefix i) (closure eq rows (cell_prefix i c))

-- a cell's last dimension with a value, and that value
abbrev pub last_label : {A : Type 0} → Cell A → Option (ℕ × A)
last_label c = option_and_then (λ i. option_map (λ v. (i, v)) (slice_index_or c i None)) (last c)

-- on the way up: the cell so far with a node's last value, and then on from its parent
abbrev pub climb_on : {A : Type 0} → (ℕ → Cell A → Cell A) → Cell A → Option (ℕ × A) → Option ℕ → Cell A
climb_on more out None parent = out
climb_on more out (Some label) None = with_value out label.0 label.1
climb_on more out (Some label) (Some l) = more l (with_value out label.0 label.1)

abbrev pub climb_from : {A : Type 0} → (ℕ → Cell A → Cell A) → Cell A → Option (Node A ℕ) → Cell A
climb_from more out None = out
climb_from more out (Some n) = climb_on more out (last_label n.cell) n.parent

-- up from the node k by at most so many values
abbrev pub climb : {A : Type 0} → Tree A → ℕ → ℕ → Cell A → Cell A
climb tree zero k out = out
climb tree (suc steps) k out = climb_from (climb tree steps) out (map.get tree k)
