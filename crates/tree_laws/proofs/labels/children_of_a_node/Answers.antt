use Rattle.cube_laws.proofs.CallerLemmas.{equality_by, prefix_of_class, length-cell_prefix}
use Rattle.tree_laws.proofs.Children.{child-is, child_before, child_alone}
use Rattle.std.proofs.Common.{sym, ap, ◌∙◌, length}
use Rattle.cube_defs.specs.Cell.{depth}
use Rattle.tree_laws.proofs.labels.children_of_a_node.Goals as goal

pub returns-clause-led_to : goal.returns-clause-led_to
returns-clause-led_to g c
    = λ rows p i v d l. child-is (equality_by g.met.V.Ord.total g.met.V.Value.apart) rows p i v d l

pub returns-clause-before : goal.returns-clause-before
returns-clause-before g c =
    λ rows p u i v node e d l child. child_before (equality_by g.met.V.Ord.total g.met.V.Value.apart) rows p u i v e d l
    child g.V.Ord.cmp (sym (length-cell_prefix (depth p) u)
    ∙ ap length (prefix_of_class (equality_by g.met.V.Ord.total g.met.V.Value.apart) rows p u e node).1)

pub returns-clause-forced : goal.returns-clause-forced
returns-clause-forced g c =
    λ rows p u i v w e d l child k. child_alone (equality_by g.met.V.Ord.total g.met.V.Value.apart) rows p u i v
    e d l child w k
