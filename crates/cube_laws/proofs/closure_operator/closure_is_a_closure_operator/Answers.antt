use Rattle.cube_laws.proofs.Closures.{closure_idem, closure_mono, leq-closure}
use Rattle.cube_laws.proofs.Orders.{equality_of}
use Rattle.cube_laws.proofs.closure_operator.closure_is_a_closure_operator.Goals as goal

pub returns-clause-above : goal.returns-clause-above
returns-clause-above g c = let law = equality_of g.met.V.Ord.total g.met.V.Value.apart g.met.V.Ord.matches_eq in
    leq-closure law

pub returns-clause-idempotent : goal.returns-clause-idempotent
returns-clause-idempotent g c = let law = equality_of g.met.V.Ord.total g.met.V.Value.apart g.met.V.Ord.matches_eq in
    closure_idem law

pub returns-clause-monotone : goal.returns-clause-monotone
returns-clause-monotone g c = let law = equality_of g.met.V.Ord.total g.met.V.Value.apart g.met.V.Ord.matches_eq in
    closure_mono law
