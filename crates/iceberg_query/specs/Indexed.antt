-- The classes in an index.
use Rattle.std.specs.Prelude.{ℕ, Option, List, filter, reverse}
use Rattle.std.specs.FinMap as map
use Rattle.cube_defs.specs.Rows.{Agg}
use Rattle.cube_defs.specs.Tree.{Tree}
use Rattle.aggregates.specs.declared.fraction.Fraction.{Fraction}
use Rattle.measure_index.specs.declared.entry.IndexEntry.{IndexEntry}
use Rattle.measure_index.specs.Index.{entries_of}
use Rattle.measure_index.specs.Rankings.{Ranking}
use Rattle.measure_index.specs.Walks.{is_at_least, is_at_most}
use Rattle.qc_arena.specs.Changes.{class_in}
use Rattle.iceberg_query.specs.declared.ask.Ask.{Ask}
use Rattle.iceberg_query.specs.declared.ask.Bound.{Bound}
use Rattle.iceberg_query.specs.declared.ask.Bound.TheVariants as bounds

-- the class of a node of the tree, if it is one
abbrev pub class_of_node : Tree ℕ → ℕ → Option Agg
class_of_node tree k = class_in (map.get tree k)

abbrev pub node_of : IndexEntry → ℕ
node_of e = e.node

-- of rising entries those that qualify, falling for `AtLeast` and rising for `AtMost`
abbrev pub qualifying : Bound → Fraction → List IndexEntry → List IndexEntry
qualifying bounds.AtLeast value entries = reverse (filter (is_at_least value) entries)
qualifying bounds.AtMost value entries = filter (is_at_most value) entries

-- the entries of the asked kind that qualify, in the order that is asked for
abbrev pub qualifying_entries : Ask → List Ranking → List IndexEntry
qualifying_entries ask index = qualifying ask.bound ask.value (entries_of ask.kind index)
