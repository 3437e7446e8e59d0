use Rattle.cube_laws.proofs.Cells.{depth-le, depth_of_last, depth_of_none, cell_prefix-depth_cell_prefix}
use Rattle.cube_laws.proofs.lattice.depth_of_cells.Goals as goal

pub returns-clause-last : goal.returns-clause-last
returns-clause-last g c = depth_of_last

pub returns-clause-none : goal.returns-clause-none
returns-clause-none g c = depth_of_none

pub returns-clause-within : goal.returns-clause-within
returns-clause-within g c = depth-le

pub returns-clause-front : goal.returns-clause-front
returns-clause-front g c = cell_prefix-depth_cell_prefix
