use Rattle.std.proofs.Common.{◌≡◌, ◌≤◌, ◌-◌, All, length, nat_abs, take}
use Rattle.cube_defs.specs.declared.limits.TheConstants.{MAX_AMOUNT}
use Rattle.cube_snapshot.specs.Format.{get_times}
use Rattle.cube_snapshot.specs.Parts.{amount}
use Rattle.cube_snapshot.proofs.Looping.{with_prefix}
use Rattle.cube_snapshot.proofs.rows.amounts_at.Given as goal

abbrev pub invariant-amounts : goal.invariant-amounts
invariant-amounts l = record {
  len : length l.amounts ≡ 4;
  small : All (λ a. nat_abs a ≤ MAX_AMOUNT) (take l.measure l.amounts);
  so_far : with_prefix amount (take l.measure l.amounts) (get_times amount (l.count - l.measure) l.rest)
      ≡ get_times amount l.count l.bytes;
}
