use Rattle.cube_laws.proofs.Covered.{cell_anti, cell_total, covered_rises}
use Rattle.cube_laws.proofs.Distinct.{rises_same}
use Rattle.cube_laws.proofs.Listed.{classes_rise, lower_bounds_rise, nodes_rise, range_rises}
use Rattle.cube_laws.proofs.lists_of_cells.lists_are_in_cell_order.Goals as goal

pub returns-clause-covered : goal.returns-clause-covered
returns-clause-covered g c = covered_rises g.met.V.Ord.total g.met.V.Value.apart

pub returns-clause-upper_bounds : goal.returns-clause-upper_bounds
returns-clause-upper_bounds g c = classes_rise g.met.V.Ord.total g.met.V.Value.apart

pub returns-clause-nodes : goal.returns-clause-nodes
returns-clause-nodes g c = nodes_rise g.met.V.Ord.total g.met.V.Value.apart

pub returns-clause-lower_bounds : goal.returns-clause-lower_bounds
returns-clause-lower_bounds g c = lower_bounds_rise g.met.V.Ord.total g.met.V.Value.apart

pub returns-clause-range : goal.returns-clause-range
returns-clause-range g c = λ measures rows box. range_rises g.met.V.Ord.total g.met.V.Value.apart rows measures box

pub returns-clause-only_one : goal.returns-clause-only_one
returns-clause-only_one g c
    = rises_same (cell_total g.met.V.Ord.total g.met.V.Value.apart) (cell_anti g.met.V.Ord.total g.met.V.Value.apart)
