use Rattle.std.proofs.Common.{rules, not}
use Rattle.std.proofs.lemmas.Fn.{filter_same}
use Rattle.pinned_view.specs.Pins.{has_name}
use Rattle.pinned_view.proofs.pins.drop_named.Goals as goal

pub returns-clause-items : goal.returns-clause-items
returns-clause-items c =
    filter_same _ (λ pin. not (has_name c.args.name.now pin)) _ (λ x b f' k. search rules) _ _ c.retain.ensures.filtered
