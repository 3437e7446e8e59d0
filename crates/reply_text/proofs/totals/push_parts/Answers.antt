use Rattle.std.proofs.Common.{◌∙◌, ◌<◌, ◌≤◌, sym, ap, ap₂, ◌++◌, ℕ, List, append_assoc, arith, length, take}
use Rattle.std.proofs.lemmas.List.{take_all}
use Rattle.std.proofs.lemmas.List.Elements.{All-from_recursion}
use Rattle.aggregates.specs.Views.{agg_in}
use Rattle.cube_defs.specs.Answers.{part}
use Rattle.cube_defs.specs.Rows.{Part}
use Rattle.cube_defs.specs.declared.limits.TheConstants.{MAX_SCALE}
use Rattle.qc_schema.specs.Schema.{Measure, no_measure}
use Rattle.std.specs.Prelude.{slice_index_or}
use Rattle.reply_text.specs.Replies.{fields_text, part_texts, parts_texts}
use Rattle.reply_text.proofs.Records.{fields-append, parts-more}
use Rattle.reply_text.proofs.totals.push_parts.Goals as goal

pub loop-measure-preserved : goal.loop-measure-preserved
loop-measure-preserved c =
    let agg = c.args.total.now.agg.now in
    let measures = c.args.total.now.schema.now.measures in
    let parts = (agg_in agg).parts in
    let k = c.loop-measure.measure in
    let out = c.args.out.now.items in
    let first = parts_texts agg.count (take k measures) (take k parts) in
    let next = part_texts agg.count (slice_index_or measures k no_measure).scale (part (agg_in agg) k) in
    c.in_ok-push_part.ensures.numbers
    ∙ ap (λ (s : ℕ). c.loop-measure.out.items ++ fields_text (part_texts agg.count s (part (agg_in agg) k)))
    c.scale.ensures
    ∙ ap (λ (z : List ℕ). z ++ fields_text next) c.loop-measure.invariant
    ∙ append_assoc out (fields_text first) (fields_text next)
    ∙ ap (λ (z : List ℕ). out ++ z) (sym (fields-append first next)
    ∙ ap fields_text (sym (parts-more agg.count measures parts k (omega arith) c.push_part.ensures.there)))

pub push_part-requires-clause-scale : goal.push_part-requires-clause-scale
push_part-requires-clause-scale c =
    let measures = c.args.total.now.schema.now.measures in
    let lt : c.loop-measure.measure < length measures
    = omega (arith, c.args.total.now.parts, c.measures_of-measure-end.ensures.parts) in
    rw c.scale.ensures (All-from_recursion (λ (m : Measure). m.scale ≤ MAX_SCALE) measures
    c.dims-dims.ensures.layout.scales c.loop-measure.measure no_measure lt)

pub returns : goal.returns
returns c =
    let agg = c.args.total.now.agg.now in
    let measures = c.args.total.now.schema.now.measures in
    let parts = (agg_in agg).parts in
    let k = c.loop-measure.measure in
    let end : length measures ≤ k = omega (arith, c.args.total.now.parts, c.measures_of-measure-end.ensures.parts) in
    let end2 : length parts ≤ k = omega (arith, c.measures_of-measure-end.ensures.parts) in
    c.loop-measure.invariant
    ∙ ap₂ (λ (ms : List Measure) (ps : List Part). c.args.out.now.items
    ++ fields_text (parts_texts agg.count ms ps)) (take_all k measures end) (take_all k parts end2)
