use Rattle.std.proofs.Common.{◌∙◌, arith}
use Rattle.value_dict.proofs.Pieces.{after_piece}
use Rattle.value_dict.proofs.text_keys.value_of.Goals as goal

pub pieces-preserved : goal.pieces-preserved
pieces-preserved c = record {
  value = rw c.step-value.ensures (rw c.coefficient-in-pieces.ensures
      (after_piece c.args.multiplier c.pieces.value c.pieces.at c.args.text.now c.pieces-test.true
      ∙ c.pieces.invariant.value));
  within = omega (c.pieces-test.true, arith);
}
