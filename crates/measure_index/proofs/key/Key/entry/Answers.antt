use Rattle.std.proofs.Common.{◌*◌, ap₂, refl, ◌∙◌}
use Rattle.cube_defs.specs.Rows.{lowest_terms}
use Rattle.aggregates.specs.Quotients.{unit_of}
use Rattle.measure_index.proofs.Keyed.{is_that}
use Rattle.measure_index.proofs.key.Key.entry.Goals as goal

pub returns : goal.returns
returns c =
    is_that c.args.kind c.args.scale c.requires c.args.self
    (record { value = c.in_lowest_terms.result; node = c.args.self.node }) refl
    (c.in_lowest_terms.ensures
    ∙ ap₂ (λ n d. lowest_terms n (d * unit_of c.args.kind c.args.scale)) c.value.ensures.num c.value.ensures.den)
