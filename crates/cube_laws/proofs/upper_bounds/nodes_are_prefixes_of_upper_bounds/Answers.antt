use Rattle.cube_laws.proofs.Nodes.{class_prefixes, node-prefix}
use Rattle.cube_laws.proofs.Orders.{equality_of}
use Rattle.cube_laws.proofs.upper_bounds.nodes_are_prefixes_of_upper_bounds.Goals as goal

pub returns-clause-fronts : goal.returns-clause-fronts
returns-clause-fronts g c = let law = equality_of g.met.V.Ord.total g.met.V.Value.apart g.met.V.Ord.matches_eq in
    class_prefixes law

pub returns-clause-no_others : goal.returns-clause-no_others
returns-clause-no_others g c = let law = equality_of g.met.V.Ord.total g.met.V.Value.apart g.met.V.Ord.matches_eq in
    node-prefix law
