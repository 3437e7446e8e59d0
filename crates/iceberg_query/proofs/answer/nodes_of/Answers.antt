use Rattle.std.proofs.Common.{sym, ◌∙◌}
use Rattle.std.proofs.lemmas.Result.{IfOk-weaker}
use Rattle.iceberg_query.specs.Subtree.{numbers}
use Rattle.iceberg_query.proofs.Index.{picked_indexed}
use Rattle.iceberg_query.proofs.answer.nodes_of.Goals as goal

pub returns-then-has-clause-picked : goal.returns-then-has-clause-picked
returns-then-has-clause-picked g c =
    IfOk-weaker c.indexed_nodes.result _ _
    (λ nodes e. picked_indexed c.args.selection.now.tree.now.tree c.args.selection.now.ask.now c.args.index.now c.requires.index
    (sym c.has.ensures ∙ c.if-has.true) c.requires.unit (numbers nodes.items) e)
    c.indexed_nodes.ensures
