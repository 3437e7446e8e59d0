use Rattle.cube_laws.proofs.Cells.{cell_prefix-depth, cell_prefix-leq, cell_prefix_mono}
use Rattle.cube_laws.proofs.Orders.{equality_of}
use Rattle.cube_laws.proofs.lattice.prefixes_of_cells.Goals as goal

pub returns-clause-below : goal.returns-clause-below
returns-clause-below g c = let law = equality_of g.met.V.Ord.total g.met.V.Value.apart g.met.V.Ord.matches_eq in
    cell_prefix-leq law

pub returns-clause-monotone : goal.returns-clause-monotone
returns-clause-monotone g c = let law = equality_of g.met.V.Ord.total g.met.V.Value.apart g.met.V.Ord.matches_eq in
    cell_prefix_mono law

pub returns-clause-whole : goal.returns-clause-whole
returns-clause-whole g c = cell_prefix-depth
