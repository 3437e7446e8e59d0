use Rattle.std.proofs.Common.{rules}
use Rattle.std.proofs.lemmas.List.Elements.{filter_from_retain}
use Rattle.base_table.proofs.presence.compact.Goals as goal

pub returns-clause-here : goal.returns-clause-here
returns-clause-here c = filter_from_retain _ (λ b. b) (λ p x b q call. search rules) _ _ _ c.retain.ensures.filtered
