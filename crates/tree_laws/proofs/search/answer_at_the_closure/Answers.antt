use Rattle.tree_laws.proofs.Climbs.{class_is}
use Rattle.tree_laws.proofs.search.answer_at_the_closure.Goals as goal

pub returns : goal.returns
returns g c =
    λ dims measures rows tree k n c' wide canonical h q. class_is g.met.V.Ord.total g.met.V.Value.apart dims measures
    rows wide tree canonical k n h c' q
