use Rattle.cube_laws.proofs.CallerLemmas.{equality_by}
use Rattle.tree_laws.proofs.RowsLess.{node_after, next_after}
use Rattle.tree_laws.proofs.one_row_more.nodes_with_rows_less.Goals as goal

pub returns-clause-node : goal.returns-clause-node
returns-clause-node g c =
    λ before after p u w node e f up l. node_after (equality_by g.met.V.Ord.total g.met.V.Value.apart) before after p u
    w node e f up l

pub returns-clause-forced : goal.returns-clause-forced
returns-clause-forced g c =
    λ u w n up l m. next_after (equality_by g.met.V.Ord.total g.met.V.Value.apart) g.V.Ord.cmp n u w up l m
