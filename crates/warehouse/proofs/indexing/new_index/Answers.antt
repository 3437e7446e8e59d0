use Rattle.std.proofs.Common.{◌≡◌, ◌≤◌, ◌∙◌, ℕ, List, ap, map, subst, sym, take}
use Rattle.std.specs.List.{All}
use Rattle.cube_defs.specs.declared.limits.TheConstants.{MAX_SCALE}
use Rattle.qc_schema.specs.Schema.{Measure}
use Rattle.warehouse.proofs.Indexed.{made-empty, small-scales}
use Rattle.warehouse.proofs.indexing.new_index.Goals as goal

pub new-requires-clause-scales : goal.new-requires-clause-scales
new-requires-clause-scales c =
    let measures = c.args.schema.now.measures in
    let same : take c.from-count.result c.scales-all.result ≡ map (λ (m : Measure). m.scale) measures =
    ap (λ (n : ℕ). take n c.scales-all.result) (c.from-count.ensures ∙ c.measures.ensures) ∙ c.scales-all.ensures.value in
    subst (λ (ss : List ℕ). All (λ scale. scale ≤ MAX_SCALE) ss) (sym same) (small-scales measures c.scales-all.ensures.layout.scales)

pub returns : goal.returns
returns c =
    let measures = c.args.schema.now.measures in
    let same : take c.from-count.result c.scales-all.result ≡ map (λ (m : Measure). m.scale) measures =
    ap (λ (n : ℕ). take n c.scales-all.result) (c.from-count.ensures ∙ c.measures.ensures) ∙ c.scales-all.ensures.value in
    made-empty c.args.schema.now (take c.from-count.result c.scales-all.result) c.indexes.result.now c.new.result same
    c.indexes.ensures c.new.ensures.value c.new.ensures.classes
