-- Which values lead from a class to a class that specializes it.
use Rattle.std.specs.Prelude.{◌≡◌, ℕ, zero, suc, ◌+◌, ◌-◌, Bool, false, ◌&&◌, Option, Some, None, List, filter, length, nat_eq, nat_lt}
use Rattle.std.specs.Prelude.{slice_get, IsSome}
use Rattle.std.specs.FinMap as map
use Rattle.std.specs.List.{All, range_with_len}
use Rattle.std.specs.Option.{option_map_or}
use Rattle.cube_defs.specs.Cell.{Cell, with_value}
use Rattle.cube_defs.specs.Tree.{Edge, Tree}
use Rattle.cube_laws.specs.Parts.{value_count}
use Rattle.qc_arena.specs.RecordReaders.{record_at}
use Rattle.tree_search.specs.Found.{TreeRows}
use Rattle.cells_below.specs.Closed.{has_closure_in}

-- of two entries of a dimension, the value that the second has where the first is Any
abbrev pub new_value : Option (Option ℕ) → Option (Option ℕ) → Option ℕ
new_value None e = None
new_value (Some (Some v)) e = None
new_value (Some None) None = None
new_value (Some None) (Some e) = e

abbrev pub leads_by : TreeRows → Cell ℕ → Cell ℕ → ℕ → Option ℕ → Bool
leads_by source u d i None = false
leads_by source u d i (Some v) = has_closure_in source d (with_value u i v)

-- d has a value in dimension i, u has none, and the value leads from u to d
abbrev pub leads_to : TreeRows → Cell ℕ → Cell ℕ → ℕ → Bool
leads_to source u d i = leads_by source u d i (new_value (slice_get u i) (slice_get d i))

-- how many values of d do so in dimensions from a on up to n
abbrev pub lead_count : TreeRows → Cell ℕ → Cell ℕ → ℕ → ℕ → ℕ
lead_count source u d a n = length (filter (leads_to source u d) (range_with_len a (n - a)))

-- the label of an edge lies before dimension `end`, and its value leads from u to d
abbrev pub label_leads : {T : Type 0} → TreeRows → Cell ℕ → Cell ℕ → ℕ → Edge ℕ T → Bool
label_leads source u d end x = nat_lt x.dim end && has_closure_in source d (with_value u x.dim x.value)

-- how often a number stands in a list
abbrev pub times : ℕ → List ℕ → ℕ
times k ks = length (filter (nat_eq k) ks)

-- each node's number stands there once for each value that leads to it, in the dimensions from a on up to n
abbrev pub AreFound : TreeRows → Tree ℕ → Cell ℕ → ℕ → ℕ → List ℕ → Type 0
AreFound source tree u a n ks = (k : ℕ) → IsSome (map.get tree k)
    → times k ks ≡ lead_count source u (record_at tree k).cell a n

-- each number is that of a node
abbrev pub AreThere : Tree ℕ → List ℕ → Type 0
AreThere tree ks = All (λ k. IsSome (map.get tree k)) ks

-- how many edges the records have of a node and of so many of its ancestors
abbrev pub edges_up : Tree ℕ → ℕ → ℕ → ℕ
edges_up tree zero k = length (record_at tree k).edges
edges_up tree (suc n) k = length (record_at tree k).edges + option_map_or (edges_up tree n) (record_at tree k).parent 0

-- of all nodes from the root to this one
abbrev pub edges_on_way : Tree ℕ → ℕ → ℕ
edges_on_way tree k = edges_up tree (value_count (record_at tree k).cell) k
