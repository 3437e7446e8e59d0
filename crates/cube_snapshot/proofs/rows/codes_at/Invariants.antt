use Rattle.std.proofs.Common.{◌≡◌, ◌-◌, All, is_some, length, take, true}
use Rattle.std.specs.Int.{w32}
use Rattle.base_table.specs.Places.{values_of}
use Rattle.value_dict.specs.Decoded.{AreCodes}
use Rattle.cube_snapshot.specs.Format.{get_times, number}
use Rattle.cube_snapshot.proofs.Looping.{with_prefix}
use Rattle.cube_snapshot.proofs.rows.codes_at.Given as goal

abbrev pub invariant-dims : goal.invariant-dims
invariant-dims l = record {
  wide : length l.cell ≡ length l.fn.cell;
  full : All (λ entry. is_some entry ≡ true) (take l.dim l.cell);
  count_is : length (values_of (take l.dim l.cell)) ≡ l.dim;
  known : AreCodes l.dict.lists (values_of (take l.dim l.cell));
  so_far : with_prefix (number w32) (values_of (take l.dim l.cell))
      (get_times (number w32) (length l.dict.lists - l.dim) l.rest) ≡ get_times (number w32)
      (length l.dict.lists) l.bytes;
}
