-- The descendants of a node, and those that are asked for.
use Rattle.std.specs.Prelude.{ℕ, zero, suc, Bool, false, Option, Some, None, List, [], ◌∷◌, flat_map, filter, map, nat_eq, if◌then◌else◌}
use Rattle.std.specs.Option.{option_eq}
use Rattle.cube_defs.specs.Rows.{Agg}
use Rattle.cube_defs.specs.Tree.{Edge, Tree}
use Rattle.cube_defs.specs.Answers as answers
use Rattle.cell_core.specs.declared.cell.NodeNo.{NodeNo}
use Rattle.qc_arena.specs.RecordReaders.{number, record_at}
use Rattle.iceberg_query.specs.declared.ask.Ask.{Ask}
use Rattle.iceberg_query.specs.Asked.{ask_in}

-- the node k is the parent of another
abbrev pub is_parent_node : Tree ℕ → ℕ → ℕ → Bool
is_parent_node tree k l = option_eq nat_eq (record_at tree l).parent (Some k)

-- an edge of the node leads to a child of it
abbrev pub is_child : Tree ℕ → ℕ → Edge ℕ ℕ → Bool
is_child tree k x = is_parent_node tree k x.target

-- a node and all that generalize it, depth first, down to so many values more
abbrev pub subtree : Tree ℕ → ℕ → ℕ → List ℕ
subtree tree zero k = k ∷ []
subtree tree (suc n) k =
    k ∷ flat_map (λ x. if is_child tree k x then subtree tree n x.target else []) (record_at tree k).edges

-- a class with this aggregate is asked for
abbrev pub is_wanted : Ask → Option Agg → Bool
is_wanted ask None = false
is_wanted ask (Some a) = answers.passes_bound (ask_in ask) a

-- of some nodes, those whose classes are asked for
abbrev pub wanted : Tree ℕ → Ask → List ℕ → List ℕ
wanted tree ask ks = filter (λ k. is_wanted ask (record_at tree k).class) ks

abbrev pub numbers : List NodeNo → List ℕ
numbers nodes = map number nodes
