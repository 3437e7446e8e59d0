use Rattle.std.proofs.Common.{arith}
use Rattle.cell_core.proofs.CallerLemmas.{meet_from_points}
use Rattle.cell_closure.proofs.width.meet_fixed.Goals as goal

pub returns-clause-meet : goal.returns-clause-meet
returns-clause-meet g c =
    meet_from_points _ _ _ c.entries.invariant.long (omega (arith, c.told-acc, c.told-row))
    (λ k l. c.entries.invariant.done k (omega (arith, c.told-acc)))
