use Rattle.std.proofs.Common.{rules}
use Rattle.aggregates.specs.Views.{IsThere}
use Rattle.measure_index.proofs.Zips.{head_and_rest}
use Rattle.measure_index.proofs.builder.+push_all.Goals as goal

pub push-requires : goal.push-requires
push-requires t c = (head_and_rest (λ x. IsThere c.args.class.now.measures x.kind) c.args.columns.now
    c.in-Some.first.now c.in-Some.rest.now c.in-Some.ensures.cases.0 c.requires).0

pub push_all-requires : goal.push_all-requires
push_all-requires t c = (
  search rules,
  (head_and_rest (λ x. IsThere c.args.class.now.measures x.kind) c.args.columns.now c.in-Some.first.now
      c.in-Some.rest.now c.in-Some.ensures.cases.0 c.requires).1,
)
