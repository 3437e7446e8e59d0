use Rattle.std.proofs.Common.{◌∙◌, ap, ap₂, pos, rules, slice_index_or, w64, ◌≢◌, ◌<◌, length, arith, below_more, get_or-set_other}
use Rattle.std.proofs.Common.{get_or-set_same, length-set}
use Rattle.std.proofs.lemmas.Int.{to_z-of_z}
use Rattle.aggregates.specs.Rows.{joined, single}
use Rattle.aggregates.proofs.agg.add_amounts.Goals as goal

pub parts-preserved : goal.parts-preserved
parts-preserved c = record {
  joined = below_more _ _
      (λ k h. let ne : k ≢ c.parts.i = omega arith in rw get_or-set_other (c.parts.invariant.joined k h))
      (let lt : c.parts.i < length c.parts.parts = omega arith in rw get_or-set_same
      (c.joined-in-parts.ensures
      ∙ ap₂ joined (c.parts.invariant.others c.parts.i (omega arith))
      (c.single-in-parts.ensures ∙ ap single
      (to_z-of_z w64 (slice_index_or c.args.amounts.now c.parts.i (pos 0)) (search rules)))));
  others = λ k h. let ne : k ≢ c.parts.i = omega arith in
      rw get_or-set_other (c.parts.invariant.others k (omega arith));
  four = rw length-set c.parts.invariant.four;
}
