use Rattle.std.proofs.Common.{[], arith, refl}
use Rattle.std.specs.BTreeSet.{BTreeSet}
use Rattle.measure_index.specs.declared.key.Key.{Key}
use Rattle.measure_index.proofs.Filled.{filled}
use Rattle.measure_index.proofs.column.Column.filled.Goals as goal

pub returns-in-Ok : goal.returns-in-Ok
returns-in-Ok c =
    let empty : BTreeSet Key = record { keys = [] } in
    record {
      kind = refl;
      scale = refl;
      classes = λ classes are. filled c.args.kind c.args.scale c.requires.scale classes c.args.keys.items empty c.in-Ok.set
          are refl c.in-Ok.ensures.ordered c.in-Ok.ensures.has;
    }

pub invariant_of-result : goal.invariant_of-result
invariant_of-result c = record {
  scale_small = c.requires.scale;
  few = omega (arith, c.in-Ok.ensures.few, c.requires.few);
  rising = c.in-Ok.ensures.ordered;
}
