use Rattle.std.proofs.Common.{◌≡◌, IfSome}
use Rattle.std.specs.Option.{option_map}
use Rattle.aggregates.specs.Views.{agg_in}
use Rattle.base_table.proofs.Groups.{IsSummed}
use Rattle.base_table.proofs.group.group_in.Given as goal

abbrev pub invariant-rows : goal.invariant-rows
invariant-rows l = record {
  sum : IsSummed l.store.printer l.tuple l.store.measures l.here.items l.store.rows (option_map agg_in l.sum) l.at;
  measures : IfSome l.sum (λ agg. agg.measures ≡ l.store.measures);
}

abbrev pub decreases-rows : goal.decreases-rows
decreases-rows l = l.at
