use Rattle.std.proofs.Common.{◌≡◌, ap, ap₂, sym, ◌∙◌, false}
use Rattle.aggregates.specs.Views.{agg_in, fraction_in, kind_in}
use Rattle.cube_defs.specs.Answers as answers
use Rattle.iceberg_query.specs.Asked.{ask_in, bound_in}
use Rattle.iceberg_query.proofs.Farther.{count_fails, value_fails, value_kind}
use Rattle.iceberg_query.proofs.reach.may_pass.Goals as goal

pub returns-in-AtLeast : goal.returns-in-AtLeast
returns-in-AtLeast c = λ no measures some there is.
    let whole = agg_in c.args.agg.now in
    let f = fraction_in c.args.ask.now.value in
    let scale = c.args.ask.now.scale in
    let same : (a : _) → answers.passes_bound (ask_in c.args.ask.now) a ≡ answers.passes_bound
    (record { kind = answers.Count; scale = scale; bound = answers.AtLeast; value = f }) a
    = λ a. ap₂ (λ k b. answers.passes_bound (record { kind = kind_in k; scale = scale; bound = bound_in b; value = f })
    a) c.in-Count.is c.in-AtLeast.is in
    same some ∙ count_fails measures whole some is scale f (sym (same whole) ∙ sym c.passes.ensures ∙ no)

pub returns-in-Least : goal.returns-in-Least
returns-in-Least c = λ no measures some there is.
    let v = value_kind c.args.ask.now c.in-Least.measure measures c.in-Least.is there in
    let outermost : answers.passes_bound (record {
      kind = kind_in c.extreme_kind.result;
      scale = c.args.ask.now.scale;
      bound = bound_in c.args.ask.now.bound;
      value = fraction_in c.args.ask.now.value;
    })
    (agg_in c.args.agg.now) ≡ false
    = sym c.passes-in-Least.ensures ∙ no in
    value_fails measures _ some is c.in-Least.measure v.1 c.args.ask.now.scale _ v.0 c.args.ask.now.bound
    (fraction_in c.args.ask.now.value)
    (ap (λ k. answers.passes_bound (record {
      kind = kind_in k;
      scale = c.args.ask.now.scale;
      bound
          = bound_in c.args.ask.now.bound;
      value = fraction_in c.args.ask.now.value;
    }) (agg_in c.args.agg.now))
    (sym c.extreme_kind.ensures) ∙ outermost)
