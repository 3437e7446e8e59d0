-- The keys by which classes are kept, and the entries that are read off them.
use Rattle.std.specs.Prelude.{◌≡◌, ℕ, ◌*◌, ◌<◌, ◌≤◌, ◌^◌, List, length, map, min}
use Rattle.std.specs.List.Sorted.{IsStrictlySortedBy}
use Rattle.std.specs.declared.cmp.Ordering.{Ordering}
use Rattle.std.specs.Ordering.{nat_cmp, ordering_then}
use Rattle.std.specs.Cmp.{IsTotalOrder, nat_cmp_total, on_total, then_total}
use Rattle.cube_defs.specs.Rows.{Fraction, lowest_terms}
use Rattle.cube_defs.specs.Answers.{fraction_cmp}
use Rattle.cube_defs.specs.declared.limits.TheConstants.{MAX_SCALE}
use Rattle.cube_laws.proofs.CallerLemmas.{value_total}
use Rattle.aggregates.specs.Quotients.{IsQuotient, unit_of}
use Rattle.aggregates.specs.declared.agg.Agg.{Agg}
use Rattle.aggregates.specs.declared.kind.AggKind.{AggKind}
use Rattle.aggregates.proofs.CallerLemmas.{lowest_terms-ratio}
use Rattle.cell_core.specs.declared.cell.NodeNo.{NodeNo}
use Rattle.measure_index.specs.declared.entry.IndexEntry.{IndexEntry}
use Rattle.measure_index.specs.declared.key.Key.{Key}
use Rattle.measure_index.specs.Divisors.{positive, small}

-- its value in the least units of the measure's amounts
abbrev pub quotient_in : Key → Fraction
quotient_in k = record { num = k.num; den = k.den }

-- by value and then by node
abbrev pub key_cmp : Key → Key → Ordering
key_cmp x y = ordering_then (fraction_cmp (quotient_in x) (quotient_in y)) (nat_cmp x.node y.node)

pub key_total : IsTotalOrder key_cmp
key_total = then_total (value_total quotient_in (λ k. k.in_range.positive))
    (on_total (λ (k : Key). k.node) nat_cmp_total)

-- the key is that of the class
abbrev pub IsKey : AggKind → NodeNo × Agg → Key → Type 0
IsKey kind class k = (k.node ≡ class.0.0) × IsQuotient kind class.1 k.num k.den

-- over how much the key's number is divided, for a kind in the unit of its measure's scale, which is at most MAX_SCALE
abbrev pub divisor : AggKind → ℕ → Key → ℕ
divisor kind scale k = k.den * unit_of kind (min scale MAX_SCALE)

-- the entry that is read off the key, for a kind in the unit of its measure's scale
unfoldable pub entry_of : AggKind → ℕ → Key → IndexEntry
entry_of kind scale k = let f = lowest_terms k.num (divisor kind scale k) in record {
  value = record {
    num = f.num;
    den = f.den;
    lowest = lowest_terms-ratio k.num (divisor kind scale k) (positive kind scale k.den k.in_range)
        (small kind scale k.den k.in_range);
  };
  node = k.node;
}

abbrev pub entries_at : AggKind → ℕ → List Key → List IndexEntry
entries_at kind scale keys = map (entry_of kind scale) keys

-- what holds of the keys that are kept for a kind in the unit of its measure's scale
pub record AreColumnKeys (scale : ℕ) (keys : List Key) : Type 0 where
  pub scale_small : scale ≤ MAX_SCALE
  pub few : length keys < 2 ^ 32
  pub rising : IsStrictlySortedBy key_cmp keys
