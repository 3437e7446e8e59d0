use Rattle.std.proofs.Common.{◌≡◌, ◌<◌, ℕ, Some}
use Rattle.std.specs.FinMap as map
use Rattle.qc_arena.specs.Map.{Known}
use Rattle.tree_records.specs.Twins.{AreBothRooted, HasTwin}
use Rattle.tree_records.proofs.twins.has_twins.Given as goal

abbrev pub invariant-numbers : goal.invariant-numbers
invariant-numbers g l = AreBothRooted l.fn.one.now l.fn.other.now → (k : ℕ) (n : Known) → k < l.number
    → map.get l.fn.one.now k ≡ Some n → HasTwin l.fn.one.now l.fn.other.now n
