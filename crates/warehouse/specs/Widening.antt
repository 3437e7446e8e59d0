-- What one dimension more does to a state, and what it may cost.
use Rattle.std.specs.Prelude.{ℕ, ◌+◌, ◌*◌, [], ◌∷◌, ◌++◌, length, nat_le, nat_lt, Option, Some, None, Result, Ok, Err, if◌then◌else◌}
use Rattle.std.specs.FinMap as finmap
use Rattle.cube_defs.specs.Text.{Text, text_cmp}
use Rattle.cube_defs.specs.Tree.{Tree, classes, nodes}
use Rattle.qc_arena.specs.Map.{edges_in}
use Rattle.qc_schema.specs.Schema.{max_dims, with_dim}
use Rattle.widen_laws.specs.Widened.{IsWidened, all_longer}
use Rattle.warehouse.specs.Batch.{Applied}
use Rattle.warehouse.specs.Counted.{tree_size}
use Rattle.warehouse.specs.State.{State}
use Rattle.warehouse.specs.declared.refused.WidenRefused.{WidenRefused}
use Rattle.warehouse.specs.declared.refused.WidenRefused.TheVariants as refusals

-- why no dimension is added, in the order in which the causes are looked for
pub data WidenRefusal : Type 0 where
  DimsFull : WidenRefusal
  NodesFull : WidenRefusal

-- one dimension more after the others, in which each row has the value, and whose only text this is
abbrev pub widened : Text → Text → State → State
widened name value s = record {
  schema = with_dim s.schema name;
  rows = all_longer value s.rows;
  texts
      = s.texts ++ (value ∷ []) ∷ [];
}

-- how many nodes the tree has then: those of before, and one for each class
abbrev pub nodes_then : State → ℕ
nodes_then s = length (nodes text_cmp s.rows) + length (classes text_cmp s.rows)

-- what is applied has no records, the classes after it, and the state after it
abbrev pub widen_result : State → Text → Text → Result Applied WidenRefusal
widen_result s name value =
    if nat_le (max_dims s.schema.version) (length s.schema.dims)
    then Err DimsFull
    else (if nat_lt s.schema.nodes (nodes_then s)
    then Err NodesFull
    else Ok (record {
      records = 0;
      classes = length (classes text_cmp (widened name value s).rows);
      state
          = widened name value s;
    }))

-- what a refusal of the code says, but for want of memory
abbrev pub widen_refusal_in : WidenRefused → Option WidenRefusal
widen_refusal_in refusals.DimsFull = Some DimsFull
widen_refusal_in refusals.NodesFull = Some NodesFull
widen_refusal_in refusals.Memory = None

-- each node keeps its number, each that is no class its whole record with Any in the new dimension, and each class
-- hands its aggregate to a forced child, which has the code 0 there
abbrev pub KeepsWidened : ℕ → Tree ℕ → Tree ℕ → Type 0
KeepsWidened dims before now = (child : ℕ → ℕ) × IsWidened dims 0 child before now

-- how many nodes and edges a tree has
abbrev pub size_of : Tree ℕ → ℕ
size_of tree = finmap.len tree + edges_in tree

-- the most steps, by the dimensions before it and by how many nodes and edges there are
abbrev pub steps_of_widening : ℕ → ℕ → ℕ
steps_of_widening dims size = 16 * (dims + 1) * (size + 1)

-- the same of the rows of a state
abbrev pub cost_of_widening : State → ℕ
cost_of_widening s = steps_of_widening (length s.schema.dims) (tree_size s.rows)
