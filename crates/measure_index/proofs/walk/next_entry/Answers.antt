use Rattle.std.proofs.Common.{◌∷◌, ap, ap₂, sym, ◌∙◌, map}
use Rattle.measure_index.specs.ColumnKeys.{entry_of}
use Rattle.measure_index.proofs.Keyed.{read}
use Rattle.measure_index.proofs.walk.next_entry.Goals as goal

pub returns-clause-entry : goal.returns-clause-entry
returns-clause-entry c =
    let kind = c.args.kind in
    let scale = c.args.scale in
    read kind scale c.args.direction c.args.keys.now
    ∙ ap (map (entry_of kind scale)) c.in_ok-key.ensures.key
    ∙ ap₂ (λ e es. e ∷ es) (sym c.entry.ensures) (sym (read kind scale c.args.direction c.next_of.new.keys))
