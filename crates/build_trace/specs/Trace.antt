-- The acts of building, depth first: nodes that are added, labels that are set, classes that are marked.
use Rattle.std.specs.Prelude.{ℕ, zero, suc, Bool, true, false, Option, Some, None, List, [], ◌∷◌, ◌++◌, map, nat_eq, slice_index_or}
use Rattle.std.specs.Prelude.{flat_map, if◌then◌else◌}
use Rattle.std.specs.Ordering.{nat_cmp}
use Rattle.cube_defs.specs.Cell.{Cell, cell_prefix, cell_eq}
use Rattle.cube_defs.specs.Rows.{Row, Agg, agg_of}
use Rattle.cube_defs.specs.Tree.{Edge, Node, parent_cell_of}
use Rattle.cube_laws.specs.Parting.{shared_by, part_at, codes_in}
use Rattle.build_trace.specs.Walk.{same_prefix}

-- a node is added; a label of a node is set, first whether to its forced child, then the node, the dimension, the value
-- and the target; a class is marked
pub data Act : Type 0 where
  Add : Cell ℕ → Act
  Label : Bool → Cell ℕ → ℕ → ℕ → Cell ℕ → Act
  Mark : Cell ℕ → Agg → Act

-- a part with the value v in dimension k: its label, and where its rows share no more before k than u has, its node
-- before and its acts after
abbrev pub part_acts : (List (Row ℕ) → List Act) → ℕ → Cell ℕ → ℕ → List (Row ℕ) → List Act
part_acts more k u v rows =
    (if same_prefix k (shared_by rows) u then Add (cell_prefix (suc k) (shared_by rows)) ∷ [] else [])
    ++ (Label false (cell_prefix k u) k v (cell_prefix (suc k) (shared_by rows)) ∷ (if same_prefix k (shared_by rows) u
    then more rows else []))

-- where u has a value in dimension k the node of its prefix, and else each part
abbrev pub acts_at : (List (Row ℕ) → List Act) → ℕ → Cell ℕ → Option ℕ → List (Row ℕ) → List Act
acts_at more k u None rows = flat_map (λ v. part_acts more k u v (part_at k rows v)) (codes_in k rows)
acts_at more k u (Some x) rows
    = Add (cell_prefix (suc k) u) ∷ Label true (cell_prefix k u) k x (cell_prefix (suc k) u) ∷ []

-- for some rows, from dimension k on, of which m are left
unfoldable pub acts : ℕ → ℕ → ℕ → List (Row ℕ) → List Act
acts measures zero k rows = Mark (shared_by rows) (agg_of measures rows) ∷ []
acts measures (suc m) k rows
    = acts_at (acts measures m (suc k)) k (shared_by rows) (slice_index_or (shared_by rows) k None) rows
    ++ acts measures m (suc k) rows

-- for a table of n dimensions that has a row
abbrev pub trace : ℕ → ℕ → List (Row ℕ) → List Act
trace measures n table = Add (cell_prefix 0 (shared_by table)) ∷ acts measures n 0 table

-- a label, and whether it leads to the forced child
pub record Put : Type 0 where
  pub forced : Bool
  pub edge : Edge ℕ (Cell ℕ)

abbrev pub put_of : Bool → ℕ → ℕ → Cell ℕ → Put
put_of b i v t = record { forced = b; edge = record { dim = i; value = v; target = t } }

-- what is set at q, in its order
abbrev pub puts_of : Cell ℕ → List Act → List Put
puts_of q [] = []
puts_of q (Add p ∷ es) = puts_of q es
puts_of q (Label b f i v t ∷ es) = if cell_eq nat_eq f q then put_of b i v t ∷ puts_of q es else puts_of q es
puts_of q (Mark w a ∷ es) = puts_of q es

abbrev pub labels_of : Cell ℕ → List Act → List (Edge ℕ (Cell ℕ))
labels_of q es = map (λ s. s.edge) (puts_of q es)

-- the last that sets the forced child
abbrev pub forced_by : Option (Edge ℕ (Cell ℕ)) → Put → Option (Edge ℕ (Cell ℕ))
forced_by None s = if s.forced then Some s.edge else None
forced_by (Some e) s = Some e

abbrev pub forced_in : List Put → Option (Edge ℕ (Cell ℕ))
forced_in [] = None
forced_in (s ∷ ss) = forced_by (forced_in ss) s

-- the last mark
abbrev pub mark_by : Option Agg → Bool → Agg → Option Agg
mark_by None b a = if b then Some a else None
mark_by (Some x) b a = Some x

abbrev pub mark_of : Cell ℕ → List Act → Option Agg
mark_of q [] = None
mark_of q (Add p ∷ es) = mark_of q es
mark_of q (Label b f i v t ∷ es) = mark_of q es
mark_of q (Mark w a ∷ es) = mark_by (mark_of q es) (cell_eq nat_eq w q) a

-- the record of q by what was done
abbrev pub read : List Act → Cell ℕ → Node ℕ (Cell ℕ)
read es q = record {
  cell = q;
  parent = parent_cell_of nat_cmp q;
  class = mark_of q es;
  forced
      = forced_in (puts_of q es);
  edges = labels_of q es;
}

-- the cells that are added
abbrev pub adds_of : List Act → List (Cell ℕ)
adds_of [] = []
adds_of (Add p ∷ es) = p ∷ adds_of es
adds_of (Label b f i v t ∷ es) = adds_of es
adds_of (Mark w a ∷ es) = adds_of es
