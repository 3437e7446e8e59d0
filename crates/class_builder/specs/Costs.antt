-- What building a tree may cost, in steps.
use Rattle.std.specs.Prelude.{ℕ, suc, ◌+◌, ◌*◌, List, [], ◌∷◌}
use Rattle.std.specs.FinMap as map
use Rattle.cube_defs.specs.Tree.{Tree}
use Rattle.build_trace.specs.Trace.{Act, Act.{Add, Label, Mark}}
use Rattle.qc_arena.specs.Map.{edges_in}

-- how many nodes are added and labels set
abbrev pub size_of_acts : List Act → ℕ
size_of_acts [] = 0
size_of_acts (Add p ∷ es) = suc (size_of_acts es)
size_of_acts (Label b f i v t ∷ es) = suc (size_of_acts es)
size_of_acts (Mark w a ∷ es) = size_of_acts es

-- the most steps for some acts; the step that marks a class counts with its node
abbrev pub cost_of_acts : ℕ → List Act → ℕ
cost_of_acts dims es = (dims + 1) * size_of_acts es

-- the most steps for a whole tree, by its nodes and edges
abbrev pub cost_of_building : ℕ → Tree ℕ → ℕ
cost_of_building dims tree = (dims + 1) * (map.len tree + edges_in tree + 1)
