-- Entries that the order takes for equal are one, so a set of them is told by what it has.
use Rattle.std.proofs.Common.{◌≡◌, refl}
use Rattle.std.specs.BTreeSet.{BTreeSet, IsSameSet}
use Rattle.std.specs.declared.cmp.Ordering.{Ordering}
use Rattle.std.specs.declared.cmp.Ordering.TheVariants.{Less, Equal, Greater}
use Rattle.std.specs.Ordering.{ordering_then, nat_cmp}
use Rattle.std.proofs.lemmas.Map.Lookups.{CmpEqualImpliesEq, btree_set_from_contains, exact_unsigned}
use Rattle.aggregates.specs.Order.{ratio_cmp}
use Rattle.measure_index.specs.declared.entry.IndexEntry.{IndexEntry}
use Rattle.measure_index.specs.Entries.{entry_cmp, entry_total}
use Rattle.measure_index.specs.Rankings.{IsRising}
use Rattle.measure_index.proofs.LowestTerms.{one_ratio}

both_equal : (a b : Ordering) → ordering_then a b ≡ Equal → (a ≡ Equal) × (b ≡ Equal)
both_equal Less b h = cc
both_equal Equal b h = (refl, h)
both_equal Greater b h = cc

pub same_entry : (x y : IndexEntry) → x.value ≡ y.value → x.node ≡ y.node → x ≡ y
same_entry x y p q = λ i. record { value = p i; node = q i }

pub exact : CmpEqualImpliesEq entry_cmp
exact x y h = let p = both_equal (ratio_cmp x.value y.value) (nat_cmp x.node y.node) h in
    same_entry x y (one_ratio x.value y.value p.0) (exact_unsigned _ _ p.1)

pub same_entries : (s t : BTreeSet IndexEntry) → IsRising s.keys → IsRising t.keys → IsSameSet entry_cmp s t
    → s.keys ≡ t.keys
same_entries s t a b h = btree_set_from_contains entry_total s t a b h exact
