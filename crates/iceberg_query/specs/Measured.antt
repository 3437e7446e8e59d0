-- The measures of the classes of a tree.
use Rattle.std.specs.Prelude.{◌≡◌, ℕ, Bool, true, Option, Some, None, length, nat_lt}
use Rattle.aggregates.specs.declared.kind.AggKind.{AggKind}
use Rattle.aggregates.specs.declared.kind.AggKind.TheVariants as kinds
use Rattle.cube_defs.specs.Rows.{Agg}
use Rattle.cube_defs.specs.Tree.{Tree}
use Rattle.qc_arena.specs.RecordReaders.{record_at}

-- an aggregate of so many measures has the measure of the kind
abbrev pub has_measure : AggKind → ℕ → Bool
has_measure kinds.Count measures = true
has_measure (kinds.Sum m) measures = nat_lt m measures
has_measure (kinds.Least m) measures = nat_lt m measures
has_measure (kinds.Greatest m) measures = nat_lt m measures
has_measure (kinds.Mean m) measures = nat_lt m measures

-- so has that of a class; a node that is none has no aggregate
abbrev pub is_measured : AggKind → Option Agg → Bool
is_measured kind None = true
is_measured kind (Some a) = has_measure kind (length a.parts)

-- so has that of each class
abbrev pub AreMeasured : Tree ℕ → AggKind → Type 0
AreMeasured tree kind = (k : ℕ) → is_measured kind (record_at tree k).class ≡ true
