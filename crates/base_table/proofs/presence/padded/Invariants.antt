use Rattle.std.proofs.Common.{◌≡◌, ◌++◌, ◌-◌, pos, replicate, take}
use Rattle.base_table.proofs.presence.padded.Given as goal
use Rattle.cube_defs.specs.declared.limits.TheConstants.{MAX_MEASURES}

abbrev pub invariant-amounts : goal.invariant-amounts
invariant-amounts l = l.four ≡ take l.i l.amounts ++ replicate (MAX_MEASURES - l.i) (pos 0)
