use Rattle.cube_laws.proofs.SameRows.{classes_by_tuples, covered_by_tuples, nodes_by_tuples}
use Rattle.cube_laws.proofs.same_rows.lists_of_cells_in_order.Goals as goal

pub returns-clause-covered : goal.returns-clause-covered
returns-clause-covered g c = λ rows more f h. covered_by_tuples g.met.V.Ord.total g.met.V.Value.apart rows more f h

pub returns-clause-classes : goal.returns-clause-classes
returns-clause-classes g c = λ rows more f h. classes_by_tuples g.met.V.Ord.total g.met.V.Value.apart rows more f h

pub returns-clause-nodes : goal.returns-clause-nodes
returns-clause-nodes g c = λ rows more f h. nodes_by_tuples g.met.V.Ord.total g.met.V.Value.apart rows more f h
