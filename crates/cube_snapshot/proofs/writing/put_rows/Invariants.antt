use Rattle.std.proofs.Common.{◌≡◌, ◌++◌, length, take}
use Rattle.std.specs.Int.{w32}
use Rattle.std.specs.List.{flat_map}
use Rattle.base_table.specs.Places.{rows_in, rows_of}
use Rattle.cube_snapshot.specs.Format.{number}
use Rattle.cube_snapshot.specs.Parts.{row}
use Rattle.cube_snapshot.proofs.writing.put_rows.Given as goal

abbrev pub invariant-places : goal.invariant-places
invariant-places l = l.out.items ≡ (l.fn.out.items ++ (number w32).put (length (rows_of l.table)))
    ++ flat_map (row l.table.dims l.table.measures).put (rows_in (take l.place l.table.places))
