-- The classes in order of the value of a kind.
use Rattle.std.specs.Prelude.{◌≡◌, ℕ, Option, Some, List, []}
use Rattle.std.specs.List.{All}
use Rattle.std.specs.List.Sorted.{IsStrictlySortedBy}
use Rattle.cube_defs.specs.Rows.{Agg}
use Rattle.cube_defs.specs.Answers.{value_of}
use Rattle.cube_laws.specs.Lists.{Among}
use Rattle.aggregates.specs.Views.{kind_in, ratio_in}
use Rattle.aggregates.specs.declared.kind.AggKind.{AggKind}
use Rattle.measure_index.specs.declared.entry.IndexEntry.{IndexEntry}
use Rattle.measure_index.specs.Entries.{entry_cmp}

-- for a kind, in the unit of its measure's scale, the entries in rising order
pub record Ranking : Type 0 where
  pub kind : AggKind
  pub scale : ℕ
  pub entries : List IndexEntry

abbrev pub no_entries : AggKind → ℕ → Ranking
no_entries kind scale = record { kind = kind; scale = scale; entries = [] }

abbrev pub IsRising : List IndexEntry → Type 0
IsRising entries = IsStrictlySortedBy entry_cmp entries

-- the entries are those of the classes, which are told by their nodes
pub record IsRanking (class : ℕ → Option Agg) (r : Ranking) : Type 0 where
  pub rising : IsRising r.entries
  pub classes : (e : IndexEntry) → Among e r.entries → (a : Agg) × (class e.node ≡ Some a)
      × (ratio_in e.value ≡ value_of (kind_in r.kind) r.scale a)
  pub all : (k : ℕ) (a : Agg) → class k ≡ Some a → (e : IndexEntry) × Among e r.entries × (e.node ≡ k)

-- the index is that of the classes
abbrev pub IsIndex : (ℕ → Option Agg) → List Ranking → Type 0
IsIndex class rankings = All (IsRanking class) rankings
