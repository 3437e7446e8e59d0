use Rattle.cube_laws.proofs.Cells.{cell_eq-exact, cell_eq-from, leq_antisymm, leq_refl, leq_trans}
use Rattle.cube_laws.proofs.Orders.{equality_of}
use Rattle.cube_laws.proofs.lattice.cells_are_ordered.Goals as goal

pub returns-clause-reflexive : goal.returns-clause-reflexive
returns-clause-reflexive g c = let law = equality_of g.met.V.Ord.total g.met.V.Value.apart g.met.V.Ord.matches_eq in
    leq_refl law

pub returns-clause-transitive : goal.returns-clause-transitive
returns-clause-transitive g c = let law = equality_of g.met.V.Ord.total g.met.V.Value.apart g.met.V.Ord.matches_eq in
    leq_trans law

pub returns-clause-antisymmetric : goal.returns-clause-antisymmetric
returns-clause-antisymmetric g c = let law = equality_of g.met.V.Ord.total g.met.V.Value.apart g.met.V.Ord.matches_eq in
    leq_antisymm law

pub returns-clause-told_apart : goal.returns-clause-told_apart
returns-clause-told_apart g c = let law = equality_of g.met.V.Ord.total g.met.V.Value.apart g.met.V.Ord.matches_eq in
    λ c d. (cell_eq-exact law c d, cell_eq-from law c d)
