use Rattle.std.proofs.Common.{ap, arith, length, refl, subst, sym, true, ◌≡◌, ◌∙◌}
use Rattle.std.specs.List.{dedup, list_any}
use Rattle.std.specs.List.Sorted.{IsStrictlySortedBy}
use Rattle.std.specs.Ordering.{eq_by_cmp, is_eq}
use Rattle.std.specs.Cmp.{eq_by_cmp_equiv}
use Rattle.std.proofs.lemmas.List.Filters.{dedup_is}
use Rattle.std.proofs.lemmas.List.Kept.{IsStrictlySortedBy-dedup}
use Rattle.std.proofs.lemmas.List.Sorted.{list_any-IsPermutation}
use Rattle.measure_index.specs.ColumnKeys.{key_cmp, key_total}
use Rattle.measure_index.specs.declared.key.Key.{Key}
use Rattle.measure_index.proofs.Deduped.{any_dedup}
use Rattle.measure_index.proofs.KeyLemmas.{any_turned}
use Rattle.measure_index.proofs.sorted_keys.SortedKeys.of.Goals as goal

alike_to : (q x y : Key) → eq_by_cmp key_cmp x y ≡ true → eq_by_cmp key_cmp q x ≡ eq_by_cmp key_cmp q y
alike_to q x y e = (eq_by_cmp_equiv key_total).symm q x ∙ (eq_by_cmp_equiv key_total).congr x y q e
    ∙ (eq_by_cmp_equiv key_total).symm y q

pub invariant_of-result : goal.invariant_of-result
invariant_of-result c =
    let sorted = c.sort_keys.new.keys in
    let kept = c.dedup.new.self in
    let keys = c.in-Ok.ensures.keys ∙ c.deref.ensures.value in
    let same : kept.items ≡ dedup (eq_by_cmp key_cmp) sorted.items
    = dedup_is (eq_by_cmp key_cmp) sorted.items kept.items c.dedup.ensures.filtered in
    let long = ap length keys in (
      record {
        full = c.in-Ok.ensures.full;
        rising = subst (IsStrictlySortedBy key_cmp) (sym (keys ∙ same))
            (IsStrictlySortedBy-dedup key_total (λ x y. refl) sorted.items c.sort_keys.ensures.sorted);
      },
      c.len.ensures ∙ kept.ok.0 ∙ sym long,
      omega (arith, c.len.ensures, c.dedup.ensures.bound, c.sort_keys.ensures.len, c.args.items.ok.0, c.requires),
    )

pub returns-in-Ok-clause-ordered : goal.returns-in-Ok-clause-ordered
returns-in-Ok-clause-ordered c =
    let sorted = c.sort_keys.new.keys.items in
    let kept = c.dedup.new.self.items in
    let same : kept ≡ dedup (eq_by_cmp key_cmp) sorted
    = dedup_is (eq_by_cmp key_cmp) sorted kept c.dedup.ensures.filtered in
    subst (IsStrictlySortedBy key_cmp) (sym (c.in-Ok.ensures.keys ∙ c.deref.ensures.value ∙ same))
    (IsStrictlySortedBy-dedup key_total (λ x y. refl) sorted c.sort_keys.ensures.sorted)

pub returns-in-Ok-clause-has : goal.returns-in-Ok-clause-has
returns-in-Ok-clause-has c = λ q.
    let sorted = c.sort_keys.new.keys.items in
    let kept = c.dedup.new.self.items in
    let same : kept ≡ dedup (eq_by_cmp key_cmp) sorted
    = dedup_is (eq_by_cmp key_cmp) sorted kept c.dedup.ensures.filtered in
    ap (list_any (eq_by_cmp key_cmp q)) (c.in-Ok.ensures.keys ∙ c.deref.ensures.value ∙ same)
    ∙ any_dedup (eq_by_cmp key_cmp) (eq_by_cmp key_cmp q) (alike_to q) sorted ∙ any_turned key_total sorted q
    ∙ sym (list_any-IsPermutation (λ x. is_eq (key_cmp x q)) c.args.items.items sorted c.sort_keys.ensures.permutation)
