use Rattle.std.proofs.Common.{◌≡◌, ◌<◌, ℕ, get_or, length}
use Rattle.cube_defs.specs.declared.limits.TheConstants.{MAX_MEASURES}
use Rattle.qc_schema.specs.Schema.{no_measure}
use Rattle.warehouse.proofs.indexing.scales.Given as goal

abbrev pub invariant-measures : goal.invariant-measures
invariant-measures l = record {
  len : length l.scales ≡ MAX_MEASURES;
  done : (k : ℕ) → k < l.measure → get_or l.scales k 0 ≡ (get_or l.schema.measures k no_measure).scale;
}
