-- Entries that come into a ranking and go out of it.
use Rattle.std.specs.Prelude.{◌≡◌, Bool, not, ◌&&◌, ◌||◌, List}
use Rattle.std.specs.List.{list_any}
use Rattle.std.specs.Ordering.{is_eq}
use Rattle.aggregates.specs.declared.agg.Agg.{Agg}
use Rattle.cell_core.specs.declared.cell.NodeNo.{NodeNo}
use Rattle.measure_index.specs.declared.entry.IndexEntry.{IndexEntry}
use Rattle.measure_index.specs.Keys.{among}
use Rattle.measure_index.specs.Entries.{AreEntries, entry_cmp}
use Rattle.measure_index.specs.Rankings.{IsRising, Ranking}

-- whether the ranking has an entry, and whether a list has it
abbrev pub has : Ranking → IndexEntry → Bool
has r q = list_any (λ e. is_eq (entry_cmp q e)) r.entries

abbrev pub lists : List IndexEntry → IndexEntry → Bool
lists entries q = among entry_cmp entries q

-- of some entries, those that the ranking does not have
abbrev pub AreFresh : Ranking → List IndexEntry → List IndexEntry → Type 0
AreFresh r entries fresh = (q : IndexEntry) → lists fresh q ≡ (lists entries q && not (has r q))

-- of the entries of a change, which are to be there and which go
pub record ArePlanned (r : Ranking) (add remove : List (NodeNo × Agg)) (coming going : List IndexEntry) : Type 0 where
  pub added : List IndexEntry
  pub removed : List IndexEntry
  pub adds : AreEntries r.kind r.scale add added
  pub removes : AreEntries r.kind r.scale remove removed
  pub comes : (q : IndexEntry) → lists coming q ≡ lists added q
  pub goes : (q : IndexEntry) → lists going q ≡ (lists removed q && not (lists added q))

-- one ranking and another of the same kind and scale
pub record AreAlike (old new : Ranking) : Type 0 where
  pub kind : new.kind ≡ old.kind
  pub scale : new.scale ≡ old.scale
  pub was_rising : IsRising old.entries
  pub rising : IsRising new.entries

pub record EntriesAdded (entries : List IndexEntry) (old new : Ranking) : Type 0 where
  pub alike : AreAlike old new
  pub entry : (q : IndexEntry) → has new q ≡ (has old q || lists entries q)

pub record EntriesRemoved (entries : List IndexEntry) (old new : Ranking) : Type 0 where
  pub alike : AreAlike old new
  pub entry : (q : IndexEntry) → has new q ≡ (has old q && not (lists entries q))

-- of the entries of the one those of `remove` went, and those of `add` came
pub record HasChanged (add remove : List (NodeNo × Agg)) (old new : Ranking) : Type 0 where
  pub alike : AreAlike old new
  pub added : List IndexEntry
  pub removed : List IndexEntry
  pub adds : AreEntries old.kind old.scale add added
  pub removes : AreEntries old.kind old.scale remove removed
  pub entry : (q : IndexEntry) → has new q ≡ (lists added q || (has old q && not (lists removed q)))
