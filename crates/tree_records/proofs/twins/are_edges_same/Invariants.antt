use Rattle.std.proofs.Common.{◌≡◌, map, take}
use Rattle.cube_defs.specs.Tree.{renamed_edge}
use Rattle.qc_arena.specs.RecordReaders.{record_at}
use Rattle.tree_records.specs.Lines.{line_at}
use Rattle.tree_records.specs.Twins.{AreBothRooted}
use Rattle.tree_records.proofs.twins.are_edges_same.Given as goal

abbrev pub invariant-edges : goal.invariant-edges
invariant-edges g l = AreBothRooted l.fn.one.now l.fn.other.now
    → map (renamed_edge (line_at l.fn.one.now)) (take l.k (record_at l.fn.one.now l.fn.a.0).edges)
    ≡ map (renamed_edge (line_at l.fn.other.now)) (take l.k (record_at l.fn.other.now l.fn.b.0).edges)
