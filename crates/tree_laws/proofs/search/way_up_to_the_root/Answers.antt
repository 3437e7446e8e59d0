use Rattle.tree_laws.proofs.Climbs.{climb_is, parent_is, root_parent}
use Rattle.tree_laws.proofs.search.way_up_to_the_root.Goals as goal

pub returns-clause-cell : goal.returns-clause-cell
returns-clause-cell g c =
    λ dims measures rows tree k n wide canonical h. climb_is g.met.V.Ord.total g.met.V.Value.apart dims measures rows
    wide tree canonical k n h

pub returns-clause-parent : goal.returns-clause-parent
returns-clause-parent g c =
    λ dims measures rows tree k n i wide canonical h d. parent_is g.met.V.Ord.total g.met.V.Value.apart dims measures
    rows wide tree canonical k n h i d

pub returns-clause-root : goal.returns-clause-root
returns-clause-root g c =
    λ dims measures rows tree k n wide canonical h d. root_parent g.met.V.Ord.total g.met.V.Value.apart dims measures
    rows wide tree canonical k n h d
