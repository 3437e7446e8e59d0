use Rattle.std.proofs.Common.{◌≡◌, ap, rules}
use Rattle.std.specs.Ordering.{is_lt}
use Rattle.std.proofs.lemmas.List.MinMax.{ranks_by}
use Rattle.std.proofs.lemmas.Fn.{always_returns_same}
use Rattle.std.proofs.lemmas.Result.{on_ok_weaker}
use Rattle.quotient_lattice.specs.NodeCells.{is_before, place_cmp}
use Rattle.quotient_lattice.proofs.PlacedOrder.{place_total}
use Rattle.quotient_lattice.proofs.node_cells.sort.Goals as goal

pub returns-clause-sorted : goal.returns-clause-sorted
returns-clause-sorted c =
    on_ok_weaker c.sort_by.result
    (λ f. f (is_before c.args.dict.now.lists) (ranks_by (place_total c.args.dict.now.lists) (λ x. x))
    (always_returns_same _ _ _ (λ a r f' h. let e : r ≡ place_cmp c.args.dict.now.lists a.0.now a.1.0.now
    = search rules in (ap is_lt e, search rules))))
    c.sort_by.ensures.sorted
