use Rattle.std.proofs.Common.{◌≡◌, ◌++◌, ℕ, Some, take}
use Rattle.std.specs.Int.{w32}
use Rattle.std.specs.List.{flat_map}
use Rattle.base_table.specs.Places.{row_at}
use Rattle.cube_defs.specs.Rows.{Row}
use Rattle.cube_snapshot.specs.Format.{number}
use Rattle.cube_snapshot.proofs.writing.put_codes.Given as goal

abbrev pub invariant-dims : goal.invariant-dims
invariant-dims l = (r : Row ℕ) → row_at l.table l.no.0 ≡ Some r
    → l.out.items ≡ l.fn.out.items ++ flat_map (number w32).put (take l.dim r.tuple)
