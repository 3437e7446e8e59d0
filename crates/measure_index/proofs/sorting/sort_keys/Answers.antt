use Rattle.std.proofs.Common.{◌≡◌, ap, subst, rules}
use Rattle.std.specs.List.{All}
use Rattle.std.specs.Ordering.{is_lt}
use Rattle.std.proofs.lemmas.Fn.{always_returns_same}
use Rattle.std.proofs.lemmas.List.MinMax.{ranks_by}
use Rattle.measure_index.specs.ColumnKeys.{key_cmp, key_total}
use Rattle.measure_index.proofs.Whole.{IsWhole, sorted_whole, whole_cmp, whole_total}
use Rattle.measure_index.proofs.sorting.sort_keys.Goals as goal

pub returns-then-are_whole-clause-sorted : goal.returns-then-are_whole-clause-sorted
returns-then-are_whole-clause-sorted c =
    sorted_whole c.args.keys.now.items c.sort_unstable_by.new.self.items c.sort_unstable_by.ensures.permutation
    (subst (All IsWhole) c.deref.ensures.value (c.are_whole.ensures c.if-are_whole.true))
    (c.sort_unstable_by.ensures.sorted (λ x y. is_lt (whole_cmp x y)) (ranks_by whole_total (λ k. k))
    (always_returns_same _ _ _ (λ a r f' h. let e : r ≡ whole_cmp a.0.now a.1.0.now = search rules in
    (ap is_lt e, search rules))))

pub returns-else-are_whole-clause-sorted : goal.returns-else-are_whole-clause-sorted
returns-else-are_whole-clause-sorted c =
    c.sort_unstable_by-else-are_whole.ensures.sorted (λ x y. is_lt (key_cmp x y)) (ranks_by key_total (λ k. k))
    (always_returns_same _ _ _ (λ a r f' h. let e : r ≡ key_cmp a.0.now a.1.0.now = search rules in
    (ap is_lt e, search rules)))
