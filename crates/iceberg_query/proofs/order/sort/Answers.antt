use Rattle.std.proofs.Common.{◌≡◌, ap, rules}
use Rattle.std.specs.Ordering.{is_lt}
use Rattle.std.proofs.lemmas.List.MinMax.{ranks_by}
use Rattle.std.proofs.lemmas.Fn.{always_returns_same}
use Rattle.std.proofs.lemmas.Result.{on_ok_weaker}
use Rattle.iceberg_query.specs.Order.{is_before, valued_cmp}
use Rattle.iceberg_query.proofs.Ordered.{valued_total}
use Rattle.iceberg_query.proofs.order.sort.Goals as goal

pub returns-clause-sorted : goal.returns-clause-sorted
returns-clause-sorted c =
    on_ok_weaker c.sort_by.result
    (λ f. f (is_before c.args.dict.now.lists c.args.bound)
    (ranks_by (valued_total c.args.dict.now.lists c.args.bound) (λ x. x))
    (always_returns_same _ _ _ (λ a r f' h. let e : r ≡ valued_cmp c.args.dict.now.lists c.args.bound a.0.now a.1.0.now
    = search rules in (ap is_lt e, search rules))))
    c.sort_by.ensures.sorted
