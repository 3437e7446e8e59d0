use Rattle.std.proofs.Common.{refl}
use Rattle.qc_session.proofs.Ends.{hands-end}
use Rattle.qc_session.proofs.scripts.generated_outcome.Goals as goal

pub returns-clause-hands : goal.returns-clause-hands
returns-clause-hands c = hands-end _ c.args.warehouse refl refl c.recall_invariant.ensures
