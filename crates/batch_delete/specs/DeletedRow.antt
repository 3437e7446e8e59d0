-- The row that goes, and the classes that it is one of.
use Rattle.std.specs.FinMap as map
use Rattle.std.specs.Prelude.{◌≡◌, ◌≤◌, ◌<◌, ℕ, suc, true, Option, Some, None, IfSome, IsSome, List, length, nat_eq, slice_get}
use Rattle.std.specs.Prelude.{slice_index_or}
use Rattle.std.specs.Option.{option_map}
use Rattle.std.specs.Ordering.{eq_by_cmp, nat_cmp}
use Rattle.aggregates.specs.declared.agg.Agg.{Agg}
use Rattle.aggregates.specs.Views.{agg_in}
use Rattle.cell_core.specs.Entry.{IsCode}
use Rattle.cube_defs.specs.Cell.{Cell, cell_of, cell_prefix, leq, with_value}
use Rattle.cube_defs.specs.Rows.{cov, covers}
use Rattle.cube_defs.specs.Tree.{Tree, cell_at}
use Rattle.cube_defs.specs.declared.limits.TheConstants.{MAX_ROWS}
use Rattle.cube_laws.specs.Parts.{IsLastAny}
use Rattle.cube_laws.specs.Total.{agg_at}
use Rattle.qc_arena.specs.Map.{Arena}
use Rattle.tree_laws.specs.Walk.{closure_prefix}
use Rattle.tree_search.specs.Found.{IsNumberOfCell, IsTreeOf, closure_in}
use Rattle.batch_delete.specs.declared.deleted_row.Class.{Class}
use Rattle.batch_delete.specs.declared.deleted_row.DeletedRow.{DeletedRow}
use Rattle.batch_delete.specs.declared.generalizing.NodeCell.{NodeCell}
use Rattle.batch_delete.specs.declared.parts.Rest.{Rest}
use Rattle.batch_delete.specs.declared.plan.NodePlan.{NodePlan}
use Rattle.batch_delete.specs.Generalizing.{AreGeneralizing}
use Rattle.batch_delete.specs.Plan.{planned_rest_in}
use Rattle.batch_delete.specs.Rests.{AreGreaterPlanned, Deletion, IsRest, SharesAtMost, rows_after, rows_before, source_before}

-- the row that goes: the tree before, its tuple, and what the other rows of the tuple come to
pub record IsDeletion (d : Deletion) (a : Arena) (t : Cell ℕ) (after : Option Agg) : Type 0 where
  pub tree : IsTreeOf a.width a.now (source_before d)
  pub long : length t ≡ a.width
  pub tuple : t ≡ cell_of d.r.tuple
  pub duplicates : option_map agg_in after ≡ agg_at (eq_by_cmp nat_cmp) d.measures (rows_after d) t
  pub few : length (rows_before d) ≤ MAX_ROWS

-- what is known of the row that goes: the tree before, its tuple, and what the tuple's rows come to before and
-- afterwards
pub record IsDeletedRow (d : Deletion) (row : DeletedRow) : Type 0 where
  pub tree : IsTreeOf row.arena.now.width row.arena.now.now (source_before d)
  pub long : length row.tuple.now ≡ row.arena.now.width
  pub tuple : row.tuple.now ≡ cell_of d.r.tuple
  pub all : option_map agg_in row.all ≡ agg_at (eq_by_cmp nat_cmp) d.measures (rows_before d) row.tuple.now
  pub duplicates : option_map agg_in row.duplicates ≡ agg_at (eq_by_cmp nat_cmp) d.measures (rows_after d) row.tuple.now
  pub few : length (rows_before d) ≤ MAX_ROWS

-- a class that the row is one of
pub record IsClass (d : Deletion) (c : Cell ℕ) : Type 0 where
  pub below : covers (eq_by_cmp nat_cmp) c d.r ≡ true
  pub own : closure_in (source_before d) c ≡ Some c

-- such a class and its node
pub record IsClassNode (d : Deletion) (a : Arena) (b : NodeCell) : Type 0 where
  pub tree : IsTreeOf a.width a.now (source_before d)
  pub class : IsClass d b.cell
  pub long : length b.cell ≡ a.width
  pub node : cell_at a.now b.node.0 ≡ Some b.cell

-- the row that goes, with such a class
pub record IsClassOfRow (d : Deletion) (row : DeletedRow) (b : NodeCell) : Type 0 where
  pub gone : IsDeletedRow d row
  pub class : IsClassNode d row.arena.now b

-- what is known of such a class: the row, and what the class's rows come to before
pub record IsKnown (d : Deletion) (class : Class) : Type 0 where
  pub gone : IsDeletedRow d class.row.now
  pub is : IsClass d class.cell.now
  pub long : length class.cell.now ≡ class.row.now.arena.now.width
  pub whole : option_map agg_in class.whole ≡ agg_at (eq_by_cmp nat_cmp) d.measures (rows_before d) class.cell.now

-- the number is that of such a class's prefix before a dimension in which the class has Any
pub record IsPrefixNode (d : Deletion) (class : Class) (i number : ℕ) : Type 0 where
  pub known : IsKnown d class
  pub any : slice_get class.cell.now i ≡ Some None
  pub dim : i < length class.cell.now
  pub front : cell_at class.row.now.arena.now.now number ≡ Some (cell_prefix i class.cell.now)

-- the part of a cell by the tuple's value in dimension i is planned for
abbrev pub IsPartPlanned : Deletion → DeletedRow → List (ℕ × NodePlan) → Cell ℕ → ℕ → Type 0
IsPartPlanned d row plan u i = (v q : ℕ) (w : Cell ℕ) → slice_index_or row.tuple.now i None ≡ Some v
    → closure_in (source_before d) (with_value u i v) ≡ Some w → cell_at row.arena.now.now q ≡ Some w
    → IsRest d.measures (rows_after d) w (planned_rest_in plan q)

-- such a prefix's number, where the class's part by the tuple's value is planned for
pub record HasOwnPart (d : Deletion) (class : Class) (plan : List (ℕ × NodePlan)) (i number : ℕ) : Type 0 where
  pub front : IsPrefixNode d class i number
  pub planned : IsPartPlanned d class.row.now plan class.cell.now i

-- such a class whose part by the tuple's value in its last dimension of Any is planned for
pub record IsLastPartPlanned (d : Deletion) (row : DeletedRow) (plan : List (ℕ × NodePlan)) (b : NodeCell)
    (i : ℕ) : Type 0 where
  pub class : IsClassOfRow d row b
  pub last : IsLastAny b.cell i
  pub planned : IsPartPlanned d row plan b.cell i

-- such a class whose parts by the tuple's values are all planned for
pub record ArePartsPlanned (d : Deletion) (row : DeletedRow) (plan : List (ℕ × NodePlan)) (b : NodeCell) : Type 0 where
  pub class : IsClassOfRow d row b
  pub planned : (i : ℕ) → slice_get b.cell i ≡ Some None → IsPartPlanned d row plan b.cell i

-- a search for the cell goes on from the number after dimension i
abbrev pub GoesOn : Deletion → Tree ℕ → Cell ℕ → ℕ → ℕ → Type 0
GoesOn d tree c i k = IsNumberOfCell tree (Some k) (closure_prefix (eq_by_cmp nat_cmp) (rows_before d) c (suc i))

-- so it does in the tree before, for a cell that is as wide
pub record IsSearch (d : Deletion) (a : Arena) (c : Cell ℕ) (i k : ℕ) : Type 0 where
  pub tree : IsTreeOf a.width a.now (source_before d)
  pub long : length c ≡ a.width
  pub dim : i < length c
  pub on : GoesOn d a.now c i k

-- the search for the cell has found a node, that of its closure
pub record HasFound (d : Deletion) (a : Arena) (c : Cell ℕ) (k : ℕ) : Type 0 where
  pub tree : IsTreeOf a.width a.now (source_before d)
  pub long : length c ≡ a.width
  pub there : IsSome (map.get a.now k)
  pub found : IsNumberOfCell a.now (Some k) (closure_in (source_before d) c)

-- a label with a code in dimension i gives a part of the class
pub record IsPartLabel (d : Deletion) (a : Arena) (u : Cell ℕ) (i v : ℕ) : Type 0 where
  pub tree : IsTreeOf a.width a.now (source_before d)
  pub long : length u ≡ a.width
  pub dim : i < length u
  pub code : IsCode v

-- some rows of the class, if there are any: they have all its measures, and what they share is as wide
pub record ArePartOf (d : Deletion) (u : Cell ℕ) (rest : Option Rest) : Type 0 where
  pub parts : IfSome rest (λ some. length (agg_in some.agg).parts ≡ d.measures)
  pub shared : IfSome rest (λ some. length some.shared ≡ length u)

-- some rows of the class that stay: what they share, and that they are its rest if they are so many
pub record MaySettle (d : Deletion) (u : Cell ℕ) (rest : Rest) : Type 0 where
  pub shared : length rest.shared ≡ length u
  pub above : SharesAtMost d u rest.shared
  pub all : rest.agg.count ≡ length (cov (eq_by_cmp nat_cmp) (rows_after d) u)
      → IsRest d.measures (rows_after d) u (Some rest)

-- what is known of such a class, and of some of its rows that stay, if there are any
pub record CanSettle (d : Deletion) (class : Class) (some : Option Rest) : Type 0 where
  pub known : IsKnown d class
  pub rest : IfSome some (λ rest. MaySettle d class.cell.now rest)

-- the row that goes, with the nodes that generalize its tuple
pub record HasGeneralizing (d : Deletion) (row : DeletedRow) (list : List NodeCell) : Type 0 where
  pub gone : IsDeletedRow d row
  pub below : AreGeneralizing row.arena.now.now row.tuple.now (length row.tuple.now) list

-- the row that goes, with a node that generalizes its tuple, all greater ones being planned for
pub record IsNextPlanned (d : Deletion) (row : DeletedRow) (plan : List (ℕ × NodePlan))
    (b : NodeCell) : Type 0 where
  pub gone : IsDeletedRow d row
  pub cell : cell_at row.arena.now.now b.node.0 ≡ Some b.cell
  pub low : leq nat_eq b.cell row.tuple.now ≡ true
  pub planned : AreGreaterPlanned d row.arena.now.now row.tuple.now b.cell plan

-- what is left of a node's rows afterwards
pub record IsRestOfNode (d : Deletion) (a : Arena) (b : NodeCell) (rest : Option Rest) : Type 0 where
  pub tree : IsTreeOf a.width a.now (source_before d)
  pub cell : cell_at a.now b.node.0 ≡ Some b.cell
  pub long : length b.cell ≡ a.width
  pub after : IsRest d.measures (rows_after d) b.cell rest
