use Rattle.std.proofs.Common.{◌∙◌, ap₂, FitsSigned, arith, rules, w64}
use Rattle.std.specs.Int.{int_max, int_min}
use Rattle.std.proofs.lemmas.Int.{ints, to_z-of_z}
use Rattle.aggregates.proofs.Aggregates.{part-same}
use Rattle.aggregates.proofs.agg.Part.joined.Goals as goal

pub returns : goal.returns
returns c =
    let a : FitsSigned w64 c.args.self.least = search rules in
    let b : FitsSigned w64 c.args.other.least = search rules in
    let d : FitsSigned w64 c.args.self.greatest = search rules in
    let e : FitsSigned w64 c.args.other.greatest = search rules in
    part-same _ _
    (omega (arith, ints))
    (to_z-of_z w64 c.min.result (search rules) ∙ c.min.ensures.value
    ∙ ap₂ int_min (to_z-of_z w64 c.args.self.least a) (to_z-of_z w64 c.args.other.least b))
    (to_z-of_z w64 c.max.result (search rules) ∙ c.max.ensures.value
    ∙ ap₂ int_max (to_z-of_z w64 c.args.self.greatest d) (to_z-of_z w64 c.args.other.greatest e))
