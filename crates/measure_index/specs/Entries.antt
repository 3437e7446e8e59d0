-- Values of classes with the numbers of their nodes.
use Rattle.std.specs.Prelude.{◌≡◌, ℕ, List}
use Rattle.std.specs.List.{All, AllZip}
use Rattle.std.specs.declared.cmp.Ordering.{Ordering}
use Rattle.std.specs.Ordering.{nat_cmp, ordering_then}
use Rattle.std.specs.Cmp.{IsTotalOrder, nat_cmp_total, on_total, then_total}
use Rattle.cube_defs.specs.Answers.{value_of}
use Rattle.aggregates.specs.Order.{ratio_cmp, ratio_total}
use Rattle.aggregates.specs.Views.{IsThere, agg_in, kind_in, ratio_in}
use Rattle.aggregates.specs.declared.agg.Agg.{Agg}
use Rattle.aggregates.specs.declared.kind.AggKind.{AggKind}
use Rattle.cell_core.specs.declared.cell.NodeNo.{NodeNo}
use Rattle.measure_index.specs.declared.entry.IndexEntry.{IndexEntry}

-- by value and then by node
abbrev pub entry_cmp : IndexEntry → IndexEntry → Ordering
entry_cmp x y = ordering_then (ratio_cmp x.value y.value) (nat_cmp x.node y.node)

pub entry_total : IsTotalOrder entry_cmp
entry_total = then_total (on_total (λ (e : IndexEntry). e.value) ratio_total)
    (on_total (λ (e : IndexEntry). e.node) nat_cmp_total)

-- the entry is that of the class, for a kind in the unit of its measure's scale
abbrev pub IsEntry : AggKind → ℕ → NodeNo × Agg → IndexEntry → Type 0
IsEntry kind scale class e = (e.node ≡ class.0.0) × (ratio_in e.value ≡ value_of (kind_in kind) scale (agg_in class.1))

abbrev pub AreEntries : AggKind → ℕ → List (NodeNo × Agg) → List IndexEntry → Type 0
AreEntries kind scale classes entries = AllZip (IsEntry kind scale) classes entries

-- each class has the measure of the kind
abbrev pub HaveMeasure : AggKind → List (NodeNo × Agg) → Type 0
HaveMeasure kind classes = All (λ class. IsThere class.1.measures kind) classes
