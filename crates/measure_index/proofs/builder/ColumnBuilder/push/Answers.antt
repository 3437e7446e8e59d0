use Rattle.std.proofs.Common.{ap, subst}
use Rattle.measure_index.specs.Builder.{GatheredKeys, HasOneMore}
use Rattle.measure_index.specs.declared.key.Key.{Key}
use Rattle.std.specs.Prelude.{List}
use Rattle.measure_index.proofs.builder.ColumnBuilder.push.Goals as goal

pub returns-clause-more : goal.returns-clause-more
returns-clause-more c =
    let kind = c.self.inside.kind in
    let scale = c.self.inside.scale in
    let now : GatheredKeys = record { kind = kind; scale = scale; keys = c.push.new.self.items } in
    subst (λ old. HasOneMore (c.args.node, c.args.class.now) old now) c.self.view_is (
      c.of.result,
      c.of.ensures,
      ap (λ (ks : List Key). let x : GatheredKeys = record { kind = kind; scale = scale; keys = ks } in
          x) c.in_ok-push.ensures.items,
    )
