-- What becomes of the nodes that generalize a tuple, and of their edges.
use Rattle.std.specs.FinMap as map
use Rattle.std.specs.List.{sum_by}
use Rattle.std.specs.Prelude.{◌≡◌, ◌≢◌, ◌<◌, ◌≤◌, ◌+◌, ◌*◌, IfSome, IsSome, length, slice_get, ℕ, zero, suc, [], ◌∷◌, filter_map, Bool}
use Rattle.std.specs.Prelude.{true, false, ◌&&◌, ◌||◌, Option, Some, None, List, nat_eq, nat_lt, slice_index_or, if◌then◌else◌}
use Rattle.std.specs.Option.{option_and_then, option_map}
use Rattle.std.specs.Map.{lookup}
use Rattle.aggregates.specs.Views.{agg_in}
use Rattle.cell_core.specs.Entry.{IsCode}
use Rattle.cell_core.specs.declared.cell.NodeNo.{NodeNo}
use Rattle.cube_defs.specs.Cell.{Cell, cell_eq, depth, cell_prefix, leq}
use Rattle.cube_defs.specs.Rows.{Agg}
use Rattle.cube_defs.specs.Tree.{Edge, Tree, next_value}
use Rattle.std.specs.Ordering.{eq_by_cmp, nat_cmp}
use Rattle.tree_laws.specs.Walk.{target_at}
use Rattle.qc_arena.specs.Edges.{rises, with_edge, without_edge}
use Rattle.qc_arena.specs.Map.{Arena, CanChange, Known, frame, is_open, is_touched, with_class, with_forced}
use Rattle.qc_arena.specs.RecordReaders.{number, record_at}
use Rattle.batch_delete.specs.declared.generalizing.NodeCell.{NodeCell}
use Rattle.batch_delete.specs.declared.parts.Rest.{Rest}
use Rattle.batch_delete.specs.declared.plan.NodePlan.{NodePlan}

-- the heir of a number, if it is planned for and has one
abbrev pub heir_in : List (ℕ × NodePlan) → ℕ → Option ℕ
heir_in plan q = option_and_then (λ fate. option_map number fate.heir) (lookup (nat_eq q) plan)

-- what the rows of a number share and come to afterwards, if it is planned for and has any
abbrev pub planned_rest_in : List (ℕ × NodePlan) → ℕ → Option Rest
planned_rest_in plan q = option_and_then (λ fate. fate.after) (lookup (nat_eq q) plan)

-- whether an entry is a value
abbrev pub is_value : Option ℕ → ℕ → Bool
is_value None v = false
is_value (Some w) v = nat_eq w v

-- whether an edge's label is left: up to the next value's dimension, and in it with that value alone
abbrev pub is_left : Option (ℕ × ℕ) → ℕ → ℕ → Bool
is_left None i v = true
is_left (Some n) i v = nat_lt i n.0 || (nat_eq i n.0 && nat_eq v n.1)

-- where an edge leads, if its label is left
abbrev pub left_to : Option (ℕ × ℕ) → Edge ℕ ℕ → Option ℕ
left_to next x = if is_left next x.dim x.value then Some x.target else None

-- where an edge that is left leads afterwards: with the tuple's value to its target's heir
abbrev pub heir_target : Cell ℕ → (ℕ → Option ℕ) → Edge ℕ ℕ → Option ℕ
heir_target tuple heirs x = if is_value (slice_index_or tuple x.dim None) x.value then heirs x.target else Some x.target

-- where an edge leads afterwards
abbrev pub new_target : Cell ℕ → (ℕ → Option ℕ) → Option (ℕ × ℕ) → Edge ℕ ℕ → Option ℕ
new_target tuple heirs next x = if is_left next x.dim x.value then heir_target tuple heirs x else None

-- a record with an edge led to another target, or without it
abbrev pub with_target : Edge ℕ ℕ → Option ℕ → Known → Known
with_target x None n = without_edge x.dim x.value n
with_target x (Some t) n = if nat_eq t x.target then n
    else with_edge (record { dim = x.dim; value = x.value; target = t }) n

-- the edges that are left of some, each led where it leads afterwards
abbrev pub redirected_edge : (Edge ℕ ℕ → Option ℕ) → Edge ℕ ℕ → Option (Edge ℕ ℕ)
redirected_edge f x = option_map (λ t. record { dim = x.dim; value = x.value; target = t }) (f x)

-- the first j edges as they are, and the others led on
abbrev pub first_redirected : (Edge ℕ ℕ → Option ℕ) → ℕ → List (Edge ℕ ℕ) → List (Edge ℕ ℕ)
first_redirected f zero xs = filter_map (redirected_edge f) xs
first_redirected f (suc j) [] = []
first_redirected f (suc j) (x ∷ xs) = x ∷ first_redirected f j xs

abbrev pub with_mixed : (Edge ℕ ℕ → Option ℕ) → ℕ → Known → Known
with_mixed f j n = record n { edges = first_redirected f j n.edges }

-- a record with its edge with a label, if it has one, led to the heir of its target
abbrev pub with_heir : (ℕ → Option ℕ) → ℕ → ℕ → Option ℕ → Known → Known
with_heir heirs dim value None n = n
with_heir heirs dim value (Some t) n = with_target (record { dim = dim; value = value; target = t }) (heirs t) n

-- a record with its edge with the tuple's value in a dimension led to the heir of its target
abbrev pub with_own : (ℕ → Option ℕ) → ℕ → Option ℕ → Known → Known
with_own heirs dim None n = n
with_own heirs dim (Some value) n = with_heir heirs dim value (target_at (eq_by_cmp nat_cmp) dim value n.edges) n

-- the forced child by an edge with the next value
abbrev pub forced_by : Option (ℕ × ℕ) → Known → Option (Edge ℕ ℕ)
forced_by None n = None
forced_by (Some x) n = option_map (λ t. record { dim = x.0; value = x.1; target = t })
    (target_at (eq_by_cmp nat_cmp) x.0 x.1 n.edges)

-- the first dimension from one on in which the cell has a value, and the value
abbrev pub next_entry : ℕ → Cell ℕ → Option (ℕ × ℕ)
next_entry from c = option_map (λ v. (next_value nat_cmp from c, v)) (slice_index_or c (next_value nat_cmp from c) None)

-- the class of a node: what its rows come to, where they share no more than the cell
abbrev pub class_by : Rest → Cell ℕ → Option Agg
class_by rest cell = if leq nat_eq rest.shared cell then Some (agg_in rest.agg) else None

-- the record of a node with the cell that stays, by what its rows share and come to afterwards
abbrev pub rewritten : Cell ℕ → (ℕ → Option ℕ) → Cell ℕ → Rest → Known → Known
rewritten tuple heirs cell rest n =
    let next = next_entry (depth cell) rest.shared in
    let led = with_mixed (new_target tuple heirs next) 0 n in
    with_class (class_by rest cell) (with_forced (forced_by next led) led)

-- what the rows of a node come to, if it is its own heir
abbrev pub rest_if_own_heir_of : ℕ → Option NodeNo → Option Rest → Option Rest
rest_if_own_heir_of q None after = None
rest_if_own_heir_of q (Some heir) after = if nat_eq heir.0 q then after else None

-- what the rows of a number come to afterwards, if the number stays
abbrev pub rest_if_stays_in : List (ℕ × NodePlan) → ℕ → Option Rest
rest_if_stays_in plan q = option_and_then (λ fate. rest_if_own_heir_of q fate.heir fate.after) (lookup (nat_eq q) plan)

-- the record of a node afterwards, if it stays
abbrev pub outcome : Cell ℕ → List (ℕ × NodePlan) → NodeCell → Known → Option Known
outcome tuple plan b n =
    option_map (λ rest. rewritten tuple (heir_in plan) b.cell rest n) (rest_if_stays_in plan b.node.0)

-- no node has changed but the one with the number
pub record ChangesOnly (k : ℕ) (before after : Arena) : Type 0 where
  pub others : (q : ℕ) → q ≢ k → map.get after.now q ≡ map.get before.now q
  pub touched : (q : ℕ) → is_touched after q ≡ is_touched before q
  pub frame : frame after ≡ frame before

-- an edge of the node may get this target, or go if there is none
pub record CanRedirect (a : Arena) (k : ℕ) (x : Edge ℕ ℕ) (to : Option NodeNo) : Type 0 where
  pub change : CanChange a k
  pub target : IfSome to (λ t. IsSome (map.get a.now t.0))
  pub dim : x.dim < a.width
  pub code : IsCode x.value

-- the node's edge with the tuple's value in a dimension may be redirected: an heir of its target is a node
pub record CanRedirectIn (a : Arena) (tuple : Cell ℕ) (plan : List (ℕ × NodePlan)) (k i : ℕ) : Type 0 where
  pub change : CanChange a k
  pub long : length tuple ≡ a.width
  pub dim : i < a.width
  pub target : (v t y : ℕ) → slice_index_or tuple i None ≡ Some v
      → target_at (eq_by_cmp nat_cmp) i v (record_at a.now k).edges ≡ Some y → heir_in plan y ≡ Some t
      → IsSome (map.get a.now t)

-- all of the node's edges with the tuple's values may be redirected; none is before dimension i
pub record CanRedirectFrom (a : Arena) (tuple : Cell ℕ) (plan : List (ℕ × NodePlan)) (k i : ℕ) : Type 0 where
  pub change : CanChange a k
  pub long : length tuple ≡ a.width
  pub from : i ≤ length tuple
  pub rises : rises (record_at a.now k).edges ≡ true
  pub dims : (j : ℕ) (x : Edge ℕ ℕ) → slice_get (record_at a.now k).edges j ≡ Some x → x.dim < a.width
  pub behind : (j : ℕ) (x : Edge ℕ ℕ) → slice_get (record_at a.now k).edges j ≡ Some x → i ≤ x.dim
  pub targets : (j t : ℕ) (x : Edge ℕ ℕ) → slice_get (record_at a.now k).edges j ≡ Some x
      → heir_target tuple (heir_in plan) x ≡ Some t → IsSome (map.get a.now t)

-- the node may be changed; it and the tuple are as wide as the tree, and its edges are after its last value
pub record CanRewrite (a : Arena) (tuple : Cell ℕ) (b : NodeCell) : Type 0 where
  pub change : CanChange a b.node.0
  pub long : length tuple ≡ a.width
  pub cell : length b.cell ≡ a.width
  pub dims : (j : ℕ) (x : Edge ℕ ℕ) → slice_get (record_at a.now b.node.0).edges j ≡ Some x → x.dim < a.width
  pub behind : (j : ℕ) (x : Edge ℕ ℕ) → slice_get (record_at a.now b.node.0).edges j ≡ Some x → depth b.cell ≤ x.dim

-- what the node's rows share afterwards is as wide, and where its edges lead afterwards there are nodes
pub record IsNewRest (a : Arena) (tuple : Cell ℕ) (plan : List (ℕ × NodePlan)) (b : NodeCell)
    (rest : Rest) : Type 0 where
  pub shared : length rest.shared ≡ a.width
  pub targets : (j t : ℕ) (x : Edge ℕ ℕ) → slice_get (record_at a.now b.node.0).edges j ≡ Some x
      → new_target tuple (heir_in plan) (next_entry (depth b.cell) rest.shared) x ≡ Some t → IsSome (map.get a.now t)

-- the node may be changed, and if it stays, its rest is such a one
pub record CanRewriteOrRemove (a : Arena) (tuple : Cell ℕ) (plan : List (ℕ × NodePlan)) (b : NodeCell) : Type 0 where
  pub node : CanRewrite a tuple b
  pub rest : IfSome (rest_if_stays_in plan b.node.0) (λ rest. IsNewRest a tuple plan b rest)

-- the node may be changed, and its forced child's value, if it has one, is a code
pub record CanForce (a : Arena) (k : ℕ) (next : Option (ℕ × ℕ)) : Type 0 where
  pub change : CanChange a k
  pub code : IfSome next (λ n. IsCode n.1)

-- whether a number stays, if it is one of the list
abbrev pub Stays : List NodeCell → List (ℕ × NodePlan) → ℕ → Type 0
Stays list plan t = (k : ℕ) (b : NodeCell) → slice_get list k ≡ Some b → b.node.0 ≡ t → IsSome (rest_if_stays_in plan t)

-- what the nodes of the list need, so that their records can be mended: theirs and what is planned are as wide as the
-- tree, and where an edge leads afterwards there is a node that stays
pub record AreReady (width : ℕ) (tree : Tree ℕ) (tuple : Cell ℕ) (plan : List (ℕ × NodePlan))
    (list : List NodeCell) : Type 0 where
  pub there : (k : ℕ) (b : NodeCell) → slice_get list k ≡ Some b → IsSome (map.get tree b.node.0)
  pub once : (j k : ℕ) (b c : NodeCell) → j < k → slice_get list j ≡ Some b → slice_get list k ≡ Some c
      → b.node.0 ≢ c.node.0
  pub cells : (k : ℕ) (b : NodeCell) → slice_get list k ≡ Some b → length b.cell ≡ width
  pub shared : (k : ℕ) (b : NodeCell) (rest : Rest) → slice_get list k ≡ Some b
      → rest_if_stays_in plan b.node.0 ≡ Some rest → length rest.shared ≡ width
  pub dims : (k j : ℕ) (b : NodeCell) (x : Edge ℕ ℕ) → slice_get list k ≡ Some b
      → slice_get (record_at tree b.node.0).edges j ≡ Some x → x.dim < width
  pub behind : (k j : ℕ) (b : NodeCell) (x : Edge ℕ ℕ) → slice_get list k ≡ Some b
      → slice_get (record_at tree b.node.0).edges j ≡ Some x → depth b.cell ≤ x.dim
  pub targets : (k j t : ℕ) (b : NodeCell) (rest : Rest) (x : Edge ℕ ℕ) → slice_get list k ≡ Some b
      → rest_if_stays_in plan b.node.0 ≡ Some rest → slice_get (record_at tree b.node.0).edges j ≡ Some x
      → new_target tuple (heir_in plan) (next_entry (depth b.cell) rest.shared) x ≡ Some t → IsSome (map.get tree t)
      × Stays list plan t

-- the nodes of the list are touched in an open batch, and are ready
pub record CanRewriteAll (a : Arena) (tuple : Cell ℕ) (plan : List (ℕ × NodePlan)) (list : List NodeCell) : Type 0 where
  pub opened : is_open a ≡ true
  pub touched : (k : ℕ) (b : NodeCell) → slice_get list k ≡ Some b → is_touched a b.node.0 ≡ true
  pub long : length tuple ≡ a.width
  pub ready : AreReady a.width a.now tuple plan list

-- how many steps the records of some nodes take
abbrev pub rewriting_cost : ℕ → Tree ℕ → List NodeCell → ℕ
rewriting_cost dims tree list = sum_by (λ b. 5 + 2 * dims + 3 * length (record_at tree b.node.0).edges) list

-- the last dimension of Any of a cell with one more entry at its beginning
abbrev pub last_any_with : Option ℕ → Option ℕ → Option ℕ
last_any_with e (Some i) = Some (suc i)
last_any_with None None = Some 0
last_any_with (Some v) None = None

-- the last dimension of Any
abbrev pub last_any_of : Cell ℕ → Option ℕ
last_any_of [] = None
last_any_of (e ∷ c) = last_any_with e (last_any_of c)

-- how many labels the nodes of a list with some cell have
abbrev pub labels_of : Tree ℕ → List NodeCell → Cell ℕ → ℕ
labels_of tree list c = sum_by (λ b. if cell_eq nat_eq b.cell c then length (record_at tree b.node.0).edges else 0) list

-- how many labels the node of the cell's prefix before its last Any has, if the cell has Any
abbrev pub prefix_labels : Tree ℕ → List NodeCell → Cell ℕ → Option ℕ → ℕ
prefix_labels tree list c None = 0
prefix_labels tree list c (Some i) = labels_of tree list (cell_prefix i c)

-- how many steps the plan for the nodes from a place on takes: each reads what its prefix's labels lead to
abbrev pub planning_cost : ℕ → Tree ℕ → List NodeCell → List NodeCell → ℕ
planning_cost dims tree list some
    = sum_by (λ b. (4 * dims + 7) * (1 + prefix_labels tree list b.cell (last_any_of b.cell))) some
