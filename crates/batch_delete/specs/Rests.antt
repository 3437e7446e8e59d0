-- What rows share and come to, before and after a row has gone.
use Rattle.std.specs.Prelude.{◌≡◌, ◌≤◌, ◌+◌, ℕ, length, slice_get, false, true, Option, Some, None, List, ◌∷◌, ◌++◌, nat_eq, not, ◌&&◌}
use Rattle.std.specs.Prelude.{filter_map, if◌then◌else◌}
use Rattle.std.specs.Option.{option_map}
use Rattle.std.specs.Ordering.{eq_by_cmp, nat_cmp}
use Rattle.aggregates.specs.Views.{agg_in}
use Rattle.cube_defs.specs.Cell.{Cell, depth, cell_prefix, leq, with_value}
use Rattle.cube_defs.specs.Rows.{Agg, Row, closure}
use Rattle.cube_defs.specs.Tree.{Edge, Tree, cell_at}
use Rattle.cube_defs.specs.declared.limits.TheConstants.{MAX_ROWS}
use Rattle.cube_laws.specs.Total.{agg_at, join_aggs, join_cells, total}
use Rattle.tree_search.specs.Found.{IsNumberOfCell, TreeRows}
use Rattle.batch_delete.specs.declared.generalizing.NodeCell.{NodeCell}
use Rattle.batch_delete.specs.declared.plan.NodePlan.{NodePlan}
use Rattle.batch_delete.specs.Plan.{planned_rest_in, heir_in}
use Rattle.batch_delete.specs.declared.parts.Rest.{Rest}

-- the row r goes, and the rows before it and after it stay
pub record Deletion : Type 0 where
  pub measures : ℕ
  pub xs : List (Row ℕ)
  pub r : Row ℕ
  pub ys : List (Row ℕ)

abbrev pub rows_before : Deletion → List (Row ℕ)
rows_before d = d.xs ++ d.r ∷ d.ys

abbrev pub rows_after : Deletion → List (Row ℕ)
rows_after d = d.xs ++ d.ys

abbrev pub source_before : Deletion → TreeRows
source_before d = record { measures = d.measures; rows = rows_before d }

abbrev pub shared_of : Option Rest → Option (Cell ℕ)
shared_of o = option_map (λ rest. rest.shared) o

abbrev pub agg_of_rest : Option Rest → Option Agg
agg_of_rest o = option_map (λ rest. agg_in rest.agg) o

-- what the rows that a cell covers share and come to
pub record IsRest (measures : ℕ) (rows : List (Row ℕ)) (c : Cell ℕ) (o : Option Rest) : Type 0 where
  pub cells : shared_of o ≡ closure (eq_by_cmp nat_cmp) rows c
  pub aggs : agg_of_rest o ≡ agg_at (eq_by_cmp nat_cmp) measures rows c

-- what the parts of u by some values in a dimension share and come to: of the row's value v those
-- that w covers and that stay, of the others those that are there
pub record IsTotal (d : Deletion) (u : Cell ℕ) (i v : ℕ) (w : Cell ℕ) (vs : List ℕ) (o : Option Rest) : Type 0 where
  pub cells : shared_of o ≡ total (join_cells (eq_by_cmp nat_cmp)) None (λ x. if eq_by_cmp nat_cmp x v
      then closure (eq_by_cmp nat_cmp) (rows_after d) w
      else closure (eq_by_cmp nat_cmp) (rows_before d) (with_value u i x)) vs
  pub aggs : agg_of_rest o ≡ total join_aggs None (λ x. if eq_by_cmp nat_cmp x v
      then agg_at (eq_by_cmp nat_cmp) d.measures (rows_after d) w
      else agg_at (eq_by_cmp nat_cmp) d.measures (rows_before d) (with_value u i x)) vs

-- the other values that some labels have in a dimension
abbrev pub other_values : ℕ → ℕ → List (Edge ℕ ℕ) → List ℕ
other_values i v xs = filter_map (λ x. if nat_eq x.dim i && not (nat_eq x.value v) then Some x.value else None) xs

-- what is planned for a node: what its rows share and come to afterwards, and as its heir the node of the
-- prefix of what they share, as long as the node's cell
pub record IsPlanned (d : Deletion) (tree : Tree ℕ) (plan : List (ℕ × NodePlan)) (b : NodeCell) : Type 0 where
  pub after : IsRest d.measures (rows_after d) b.cell (planned_rest_in plan b.node.0)
  pub heir : IsNumberOfCell tree (heir_in plan b.node.0)
      (option_map (cell_prefix (depth b.cell)) (closure (eq_by_cmp nat_cmp) (rows_after d) b.cell))

-- the nodes of the list from a place on are planned for
abbrev pub ArePlanned : Deletion → Tree ℕ → List (ℕ × NodePlan) → List NodeCell → ℕ → Type 0
ArePlanned d tree plan list k = (j : ℕ) (b : NodeCell) → k ≤ j → slice_get list j ≡ Some b → IsPlanned d tree plan b

-- the nodes that generalize the tuple that are greater than a cell are planned for
abbrev pub AreGreaterPlanned : Deletion → Tree ℕ → Cell ℕ → Cell ℕ → List (ℕ × NodePlan) → Type 0
AreGreaterPlanned d tree tuple c plan = (q : ℕ) (w : Cell ℕ) → cell_at tree q ≡ Some w → leq nat_eq w tuple ≡ true
    → leq nat_eq c w ≡ true → leq nat_eq w c ≡ false → IsRest d.measures (rows_after d) w (planned_rest_in plan q)

-- what a cell's rows share afterwards generalizes the other cell, and they are some
abbrev pub SharesAtMost : Deletion → Cell ℕ → Cell ℕ → Type 0
SharesAtMost d u s = (w : Cell ℕ) × (closure (eq_by_cmp nat_cmp) (rows_after d) u ≡ Some w)
    × (leq (eq_by_cmp nat_cmp) w s ≡ true)

-- two groups of rows can be joined: they have the same measures and dimensions, and are few enough
pub record CanJoin (some part : Rest) : Type 0 where
  pub parts : length (agg_in part.agg).parts ≡ length (agg_in some.agg).parts
  pub few : some.agg.count + part.agg.count ≤ MAX_ROWS
  pub long : length some.shared ≡ length part.shared
