use Rattle.cube_defs.specs.Rows.{is_class, is_node}
use Rattle.cube_defs.specs.Tree.{classes, nodes}
use Rattle.cube_laws.proofs.Listed.{classes-is}
use Rattle.cube_laws.proofs.Lists.{all_from}
use Rattle.cube_laws.proofs.Nodes.{nodes-is}
use Rattle.cube_laws.proofs.Orders.{equality-path}
use Rattle.cube_laws.specs.Lists.{Among}
use Rattle.std.proofs.Common.{subst, true, ◌↔◌, ◌≡◌}
use Rattle.cube_laws.proofs.lists_of_cells.upper_bounds_and_nodes_are_listed.Goals as goal

pub returns-clause-upper_bounds : goal.returns-clause-upper_bounds
returns-clause-upper_bounds g c
    = λ n rows u long. subst (λ e. Among u (classes g.V.Ord.cmp rows) ↔ (is_class e rows u ≡ true))
    (equality-path _ g.met.V.Ord.matches_eq)
    (classes-is g.met.V.Ord.total g.met.V.Value.apart rows n (all_from _ rows long) u)

pub returns-clause-nodes : goal.returns-clause-nodes
returns-clause-nodes g c = λ n rows p long. subst (λ e. Among p (nodes g.V.Ord.cmp rows) ↔ (is_node e rows p ≡ true))
    (equality-path _ g.met.V.Ord.matches_eq)
    (nodes-is g.met.V.Ord.total g.met.V.Value.apart n rows (all_from _ rows long) p)
