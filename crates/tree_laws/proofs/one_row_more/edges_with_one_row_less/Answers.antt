use Rattle.tree_laws.proofs.RowsLess.{no_further, other_edge_less, own_edge_less}
use Rattle.tree_laws.proofs.one_row_more.edges_with_one_row_less.Goals as goal

pub returns-clause-reach : goal.returns-clause-reach
returns-clause-reach g c =
    λ xs ys r p u w k e f node. no_further g.met.V.Ord.total g.met.V.Value.apart 0 xs r ys p u w k e f node

pub returns-clause-other : goal.returns-clause-other
returns-clause-other g c =
    λ measures xs ys r p u w x k e f node o. other_edge_less g.met.V.Ord.total g.met.V.Value.apart measures xs r ys p u
    w k e f node x o

pub returns-clause-led : goal.returns-clause-led
returns-clause-led g c =
    λ measures xs ys r p u w t x k e f node m. own_edge_less g.met.V.Ord.total g.met.V.Value.apart measures xs r ys p u
    w k e f node x t m
