use Rattle.std.proofs.Common.{◌≡◌, ◌<◌, ℕ, [], get_or, length}
use Rattle.cube_defs.specs.declared.limits.TheConstants.{MAX_DIMS}
use Rattle.warehouse.proofs.learning.lengths.Given as goal

abbrev pub invariant-dims : goal.invariant-dims
invariant-dims l = record {
  len : length l.lens ≡ MAX_DIMS;
  done : (k : ℕ) → k < l.dim → get_or l.lens k 0 ≡ length (get_or l.dict.lists k []);
}
