use Rattle.tree_laws.proofs.Walks.{walk_found, no_root}
use Rattle.tree_laws.proofs.search.search_finds_the_closure.Goals as goal

pub returns-clause-found : goal.returns-clause-found
returns-clause-found g c =
    λ dims measures rows tree root c' wide canonical long at. walk_found g.met.V.Ord.total g.met.V.Value.apart dims
    measures rows wide tree canonical root c' long at

pub returns-clause-no_root : goal.returns-clause-no_root
returns-clause-no_root g c =
    λ dims measures rows tree c' wide canonical long none. no_root g.met.V.Ord.total g.met.V.Value.apart dims measures
    rows wide tree canonical c' long none
