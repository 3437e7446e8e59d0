use Rattle.std.proofs.Common.{◌≡◌, ℤ, pos, ◌*ℤ◌, ap, ap₂, sym, ◌∙◌, rules, w64}
use Rattle.std.specs.Int.{w128}
use Rattle.std.proofs.lemmas.Int.{to_z-of_z}
use Rattle.std.specs.Ordering.{int_cmp}
use Rattle.aggregates.specs.Views.{agg_in, fraction_in, kind_in, ratio_in}
use Rattle.cube_defs.specs.Answers.{value_of}
use Rattle.iceberg_query.specs.Reach.{farther, is_reached}
use Rattle.iceberg_query.proofs.Farther.{sum_fails}
use Rattle.iceberg_query.proofs.reach.may_pass_by_sum.Goals as goal

pub returns : goal.returns
returns c = λ no measures some l is.
    let end = c.value_of-end.result in
    let ask = c.args.ask.now in
    let num-is = to_z-of_z w64 end.num (search rules) in
    let one = to_z-of_z w128 c.from.result (search rules) ∙ c.from.ensures ∙ num-is in
    let all = to_z-of_z w128 c.times-all.result (search rules) ∙ c.times-all.ensures
    ∙ ap (λ (x : ℤ). x *ℤ pos c.args.agg.now.count) num-is in
    let most : c.more_extreme-most.result ≡ farther ask.bound end.num (end.num *ℤ pos c.args.agg.now.count)
    = c.more_extreme-most.ensures ∙ ap₂ (farther ask.bound) one all in
    let den = to_z-of_z w128 c.from-2.result (search rules) ∙ c.from-2.ensures in
    let reached = to_z-of_z w128 c.in-Some.reached (search rules) ∙ c.in-Some.ensures.1
    ∙ ap₂ (λ (x y : ℤ). x *ℤ y) (to_z-of_z w128 c.more_extreme-most.result (search rules) ∙ most) den in
    let num = to_z-of_z w128 ask.value.num (search rules) in
    let low = to_z-of_z w128 c.from-3.result (search rules) ∙ c.from-3.ensures in
    let wanted = to_z-of_z w128 c.in-Some-checked_mul.wanted (search rules) ∙ c.in-Some-checked_mul.ensures.1
    ∙ ap₂ (λ (x y : ℤ). x *ℤ y) num low in
    sum_fails measures (agg_in c.args.agg.now) some is c.args.measure l ask.scale ask.bound (fraction_in ask.value)
    (ratio_in end)
    (c.value_of-end.ensures ∙ ap (λ k. value_of (kind_in k) ask.scale (agg_in c.args.agg.now)) c.extreme_kind.ensures)
    (sym (ap₂ (λ (x y : ℤ). is_reached ask.bound (int_cmp x y)) reached wanted) ∙ sym c.is_past_bound.ensures ∙ no)
