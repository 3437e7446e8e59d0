-- The order of the edges of a record, and records under other values.
use Rattle.std.specs.Prelude.{◌≡◌, ◌↔◌, ℕ}
use Rattle.std.specs.declared.cmp.Ordering.{Ordering}
use Rattle.std.specs.Ordering.{nat_cmp, ordering_then}
use Rattle.std.specs.Option.{option_map}
use Rattle.cube_defs.specs.Cell.{Cell}
use Rattle.cube_defs.specs.Tree.{Edge, Node}
use Rattle.cube_laws.specs.Lists.{Among}
use Rattle.cube_laws.specs.Recoding.{coded_cell}

-- by dimension, and then by value
abbrev pub edge_cmp : {A T : Type 0} → (A → A → Ordering) → Edge A T → Edge A T → Ordering
edge_cmp cmp x y = ordering_then (nat_cmp x.dim y.dim) (cmp x.value y.value)

-- codes i v: the code of the value v in dimension i
abbrev pub coded_edge : {A B : Type 0} → (ℕ → A → B) → Edge A (Cell A) → Edge B (Cell B)
coded_edge codes x = record { dim = x.dim; value = codes x.dim x.value; target = coded_cell codes 0 x.target }

-- a record, and the same record under codes; its edges stand in the order of the codes
pub record IsCodedNode {A B : Type 0} (codes : ℕ → A → B) (n : Node A (Cell A)) (m : Node B (Cell B)) : Type 0 where
  pub cell : m.cell ≡ coded_cell codes 0 n.cell
  pub parent : m.parent ≡ option_map (coded_cell codes 0) n.parent
  pub class : m.class ≡ n.class
  pub forced : m.forced ≡ option_map (coded_edge codes) n.forced
  pub edges : (y : Edge B (Cell B)) → Among y m.edges
      ↔ ((x : Edge A (Cell A)) × Among x n.edges × (y ≡ coded_edge codes x))
