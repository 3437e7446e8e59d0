use Rattle.std.proofs.Common.{◌≡◌, Some, ap, sym, ◌∙◌}
use Rattle.aggregates.specs.Numbers.{amount_in}
use Rattle.aggregates.proofs.ReadBack.{amount_in-text}
use Rattle.aggregates.proofs.laws.printed_amounts_are_read.Goals as goal

pub returns-clause-apart : goal.returns-clause-apart
returns-clause-apart c = λ scale amount other h l e.
    let same : Some amount ≡ Some other = sym (amount_in-text scale amount h) ∙ ap (amount_in scale) e
    ∙ amount_in-text scale other l in
    cc

pub returns-clause-read : goal.returns-clause-read
returns-clause-read c = amount_in-text
