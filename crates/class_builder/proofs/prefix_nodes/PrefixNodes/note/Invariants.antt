use Rattle.std.proofs.Common.{◌≡◌, Some, suc}
use Rattle.cube_defs.specs.Cell.{cell_prefix}
use Rattle.cube_defs.specs.Tree.{cell_at}
use Rattle.qc_arena.specs.Map.{Arena}
use Rattle.class_builder.specs.PrefixNodes.{ArePrefixNodes}
use Rattle.class_builder.proofs.prefix_nodes.PrefixNodes.note.Given as goal

-- so far the nodes are those of prefixes
abbrev pub invariant-rows : goal.invariant-rows
invariant-rows l = (arena : Arena) → ArePrefixNodes l.part.table.now arena l.fn.self
    → cell_at arena.now l.node.0 ≡ Some (cell_prefix (suc l.dim) l.part.shared.now)
    → ArePrefixNodes l.part.table.now arena l.self
