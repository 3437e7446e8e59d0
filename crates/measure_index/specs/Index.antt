-- The rankings of an index by their kinds.
use Rattle.std.specs.Prelude.{ℕ, Option, Some, None, List, [], map, slice_index_or}
use Rattle.std.specs.List.{find}
use Rattle.aggregates.specs.declared.kind.AggKind.{AggKind}
use Rattle.aggregates.specs.Views.{same_kind}
use Rattle.aggregates.specs.declared.kind.AggKind.TheVariants as kinds
use Rattle.measure_index.specs.declared.entry.IndexEntry.{IndexEntry}
use Rattle.measure_index.specs.Rankings.{Ranking, no_entries}

abbrev pub ranking_of : AggKind → List Ranking → Option Ranking
ranking_of kind index = find (λ r. same_kind kind r.kind) index

abbrev pub entries_in : Option Ranking → List IndexEntry
entries_in None = []
entries_in (Some r) = r.entries

-- the entries of a kind
abbrev pub entries_of : AggKind → List Ranking → List IndexEntry
entries_of kind index = entries_in (ranking_of kind index)

-- the kinds with the scales of their measures
abbrev pub units : List Ranking → List (AggKind × ℕ)
units index = map (λ r. (r.kind, r.scale)) index

-- the scale of the kind's measure; a count has none
abbrev pub scale_of : List ℕ → AggKind → ℕ
scale_of scales kinds.Count = 0
scale_of scales (kinds.Sum m) = slice_index_or scales m 0
scale_of scales (kinds.Least m) = slice_index_or scales m 0
scale_of scales (kinds.Greatest m) = slice_index_or scales m 0
scale_of scales (kinds.Mean m) = slice_index_or scales m 0

abbrev pub empty_ranking : List ℕ → AggKind → Ranking
empty_ranking scales kind = no_entries kind (scale_of scales kind)
