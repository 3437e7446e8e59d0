-- Keys that are whole numbers, or have one divisor.
use Rattle.std.proofs.Common.{◌≡◌, ◌+◌, ◌∙◌, ◌*ℤ◌, List, slice_index_or, is_lt, pos, ap, sym, arith, ℕ}
use Rattle.std.specs.Cmp.{IsTotalOrder, int_cmp_total, nat_cmp_total, on_total, then_total}
use Rattle.std.specs.List.{All}
use Rattle.std.specs.List.Sorted.{IsPermutation, IsSorted}
use Rattle.std.specs.Ordering.{int_cmp, nat_cmp, ordering_then}
use Rattle.std.specs.declared.cmp.Ordering.{Ordering}
use Rattle.std.proofs.lemmas.List.Elements.{All-get_or}
use Rattle.std.proofs.lemmas.List.Sorted.{All-permutation}
use Rattle.aggregates.proofs.CallerLemmas.{order-over}
use Rattle.measure_index.specs.ColumnKeys.{key_cmp}
use Rattle.measure_index.specs.declared.key.Key.{Key}

-- by number and then by node
abbrev pub whole_cmp : Key → Key → Ordering
whole_cmp x y = ordering_then (int_cmp x.num y.num) (nat_cmp x.node y.node)

pub whole_total : IsTotalOrder whole_cmp
whole_total = then_total (on_total (λ (k : Key). k.num) int_cmp_total) (on_total (λ (k : Key). k.node) nat_cmp_total)

abbrev pub IsWhole : Key → Type 0
IsWhole k = k.den ≡ 1

-- keys with one divisor have that order
pub same_order : (x y : Key) → x.den ≡ y.den → whole_cmp x y ≡ key_cmp x y
same_order x y e = ap (λ o. ordering_then o (nat_cmp x.node y.node)) (order-over x.num y.num x.den x.in_range.positive
    ∙ ap (λ (d : ℕ). int_cmp (x.num *ℤ pos d) (y.num *ℤ pos x.den)) e)

-- whole numbers that were brought into that order are in the order of keys
pub sorted_whole : (keys now : List Key) → IsPermutation keys now → All IsWhole keys → IsSorted whole_cmp now
    → IsSorted key_cmp now
sorted_whole keys now moved are sorted k d low high =
    let whole = All-permutation IsWhole keys now moved are in
    ap is_lt (sym (same_order (slice_index_or now (k + 1) d) (slice_index_or now k d)
    (All-get_or IsWhole now (k + 1) d high whole ∙ sym (All-get_or IsWhole now k d (omega (arith, high)) whole))))
    ∙ sorted k d low high
