use Rattle.std.proofs.Common.{◌-◌, ◌<◌, [], IfSome, None, Option, Some, arith, ℕ}
use Rattle.std.specs.Option.{option_map}
use Rattle.aggregates.specs.Views.{agg_in}
use Rattle.aggregates.specs.declared.agg.Agg.{Agg}
use Rattle.cube_defs.specs.Rows.{Row}
use Rattle.base_table.proofs.Groups.{begin_sum, count_of, end_sum, step_sum, sum_few}
use Rattle.base_table.proofs.group.group_in.Goals as goal

no_row : Row ℕ
no_row = record { id = 0; tuple = []; amounts = [] }

few_in : (sum : Option Agg) → count_of (option_map agg_in sum) < 1000000 → IfSome sum (λ agg. agg.count < 1000000)
few_in None h = tt
few_in (Some agg) h = h

pub rows-init : goal.rows-init
rows-init c = record {
  sum = begin_sum c.args.store.now.printer c.args.tuple.now c.args.store.now.dims c.args.store.now.measures
      c.args.here.now.items c.args.store.now.rows c.requires.places c.requires.each c.last_with_fingerprint-at.result
      c.last_with_fingerprint-at.ensures;
  measures = tt;
}

pub with_place-sum-requires-clause-place : goal.with_place-sum-requires-clause-place
with_place-sum-requires-clause-place c = omega (arith, c.rows.invariant.sum.within)

pub with_place-sum-requires-clause-measures : goal.with_place-sum-requires-clause-measures
with_place-sum-requires-clause-measures c = c.rows.invariant.measures

pub with_place-sum-requires-clause-few : goal.with_place-sum-requires-clause-few
with_place-sum-requires-clause-few c = λ there d it.
    few_in c.rows.sum (sum_few c.args.store.now.printer c.args.tuple.now c.args.store.now.dims c.args.store.now.measures
    c.args.here.now.items c.args.store.now.rows c.requires.places c.requires.each (option_map agg_in c.rows.sum)
    (c.rows.at - 1) c.rows.at d (omega arith)
    c.rows.invariant.sum c.requires.few there it)

pub previous_with_fingerprint-at-requires : goal.previous_with_fingerprint-at-requires
previous_with_fingerprint-at-requires c = omega (arith, c.rows.invariant.sum.within, c.requires.places)

pub rows-preserved : goal.rows-preserved
rows-preserved c = record {
  sum = (step_sum c.args.store.now.printer c.args.tuple.now c.args.store.now.dims c.args.store.now.measures
      c.args.here.now.items c.args.store.now.rows c.requires.places c.requires.each (option_map agg_in c.rows.sum)
      (option_map agg_in c.with_place-sum.result)
      (c.rows.at - 1) c.rows.at c.previous_with_fingerprint-at.result no_row (omega arith) c.rows.invariant.sum
      (c.with_place-sum.ensures.aggregate no_row) (c.previous_with_fingerprint-at.ensures no_row)).0;
  measures = c.with_place-sum.ensures.measures;
}

pub rows-smaller : goal.rows-smaller
rows-smaller c =
    omega (
      arith,
      (step_sum c.args.store.now.printer c.args.tuple.now c.args.store.now.dims c.args.store.now.measures
          c.args.here.now.items c.args.store.now.rows c.requires.places c.requires.each (option_map agg_in c.rows.sum)
          (option_map agg_in c.with_place-sum.result)
          (c.rows.at - 1) c.rows.at c.previous_with_fingerprint-at.result no_row (omega arith) c.rows.invariant.sum
          (c.with_place-sum.ensures.aggregate no_row) (c.previous_with_fingerprint-at.ensures no_row)).1,
    )

pub returns : goal.returns
returns c = record {
  value = end_sum c.args.store.now.printer c.args.tuple.now c.args.store.now.dims c.args.store.now.measures
      c.args.here.now.items c.args.store.now.rows c.requires.places c.requires.each
      (option_map agg_in c.rows.sum) c.rows.at (omega arith) c.rows.invariant.sum;
  measures = c.rows.invariant.measures;
}
