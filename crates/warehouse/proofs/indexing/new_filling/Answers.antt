use Rattle.std.proofs.Common.{◌≡◌, ◌≤◌, ◌∙◌, ℕ, List, ap, map, subst, sym, take}
use Rattle.std.specs.List.{All}
use Rattle.aggregates.specs.declared.kind.AggKind.{AggKind}
use Rattle.cube_defs.specs.declared.limits.TheConstants.{MAX_SCALE}
use Rattle.measure_index.specs.Index.{scale_of}
use Rattle.qc_schema.specs.Schema.{Measure}
use Rattle.warehouse.proofs.Indexed.{small-scales, unit-in, units-named}
use Rattle.warehouse.proofs.indexing.new_filling.Goals as goal

pub new-requires-clause-scales : goal.new-requires-clause-scales
new-requires-clause-scales c =
    let measures = c.args.schema.now.measures in
    let same : take c.from-count.result c.scales-all.result ≡ map (λ (m : Measure). m.scale) measures =
    ap (λ (n : ℕ). take n c.scales-all.result) (c.from-count.ensures ∙ c.measures.ensures) ∙ c.scales-all.ensures.value in
    subst (λ (ss : List ℕ). All (λ scale. scale ≤ MAX_SCALE) ss) (sym same) (small-scales measures c.scales-all.ensures.layout.scales)

pub returns-clause-units : goal.returns-clause-units
returns-clause-units c =
    let measures = c.args.schema.now.measures in
    let same : take c.from-count.result c.scales-all.result ≡ map (λ (m : Measure). m.scale) measures =
    ap (λ (n : ℕ). take n c.scales-all.result) (c.from-count.ensures ∙ c.measures.ensures) ∙ c.scales-all.ensures.value in
    units-named c.new.result _ (map (unit-in c.args.schema.now) c.args.schema.now.indexes)
    (ap (λ (ss : List ℕ). map (λ (kind : AggKind). (kind, scale_of ss kind)) c.indexes.result.now) same
    ∙ ap (λ (kinds : List AggKind). map (unit-in c.args.schema.now) kinds) c.indexes.ensures) c.new.ensures.units
