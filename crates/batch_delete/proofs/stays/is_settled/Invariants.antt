use Rattle.std.proofs.Common.{◌≡◌, ◌<◌, ℕ, None, Some, slice_get}
use Rattle.batch_delete.proofs.stays.is_settled.Given as goal

abbrev pub invariant-dims : goal.invariant-dims
invariant-dims l = (k v : ℕ) → k < l.dim → slice_get l.shared.cell.now k ≡ Some None → slice_get l.shared.values.now k ≡ Some (Some v)
    → slice_get l.shared.tuple.now k ≡ Some (Some v)
