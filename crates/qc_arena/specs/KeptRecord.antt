-- What a record that is kept of a node means, and what holds of it.
use Rattle.std.specs.Prelude.{◌≡◌, ◌≢◌, ℕ, ◌≤◌, List, [], ◌∷◌, Bool, Option, Some, None, length, nat_eq, nat_lt, if◌then◌else◌}
use Rattle.cube_defs.specs.Tree.{Edge}
use Rattle.aggregates.specs.declared.agg.Agg.{Agg}
use Rattle.tree_laws.specs.Walk.{last_label}
use Rattle.qc_arena.specs.declared.edge.StoredEdge.{StoredEdge}
use Rattle.qc_arena.specs.Edges.{code_of, edge_to}
use Rattle.qc_arena.specs.NodeRecord.{IsHeading, IsTrail, cell_on, label_in}

-- the forced child, if there is one
abbrev pub forced_by : Bool → StoredEdge → Option (Edge ℕ ℕ)
forced_by has_forced first = if has_forced then Some (edge_to first) else None

-- the edges in the record: one, or none
abbrev pub edges_by : ℕ → StoredEdge → List (Edge ℕ ℕ)
edges_by list first = if nat_eq list 4294967294 then edge_to first ∷ [] else []

-- the place of the list of edges, if there is one
abbrev pub place_by : ℕ → Option ℕ
place_by list = if nat_lt list 4294967294 then Some list else None

-- the last label is that of the trail, the heading that of the class
pub record IsKeptRecord (trail : List (ℕ × ℕ)) (noted : List (ℕ × Agg)) (up : StoredEdge) (count measures : ℕ) : Type 0 where
  pub heading : IsHeading noted count measures
  pub end : last_label (cell_on trail) ≡ label_in up.dim (code_of up)
  pub few_dims : length (cell_on trail) ≤ 255
  pub begun : trail ≢ []
  pub within : IsTrail trail
