use Rattle.std.proofs.Common.{sym, subst}
use Rattle.iceberg_query.specs.Measured.{AreMeasured}
use Rattle.iceberg_query.proofs.Measured.{are_measured}
use Rattle.iceberg_query.proofs.answer.iceberg.Goals as goal

pub invariant_of-selection : goal.invariant_of-selection
invariant_of-selection g c =
    let s = c.requires.measure in
    record {
      measured = subst (λ tree. AreMeasured tree c.args.ask.now.kind) (sym c.of-tree.ensures.tree)
          (are_measured _ _ s.0 s.1 c.args.ask.now.kind s.2);
    }
