use Rattle.std.proofs.Common.{◌∙◌, ap, slice_index_or, ◌≢◌, ◌<◌, length, arith, below_more, get_or-set_other, get_or-set_same, length-set}
use Rattle.aggregates.specs.Bounds.{zero_part}
use Rattle.aggregates.specs.Rows.{joined}
use Rattle.aggregates.proofs.agg.join_parts.Goals as goal

pub parts-preserved : goal.parts-preserved
parts-preserved c = record {
  joined = below_more _ _
      (λ k h. let ne : k ≢ c.parts.i = omega arith in rw get_or-set_other (c.parts.invariant.joined k h))
      (let lt : c.parts.i < length c.parts.parts = omega arith in rw get_or-set_same
      (c.joined.ensures ∙ ap (λ p. joined p (slice_index_or c.args.others.now c.parts.i zero_part))
      (c.parts.invariant.others c.parts.i (omega arith))));
  others = λ k h. let ne : k ≢ c.parts.i = omega arith in
      rw get_or-set_other (c.parts.invariant.others k (omega arith));
  four = rw length-set c.parts.invariant.four;
}
