use Rattle.std.proofs.Common.{◌≡◌, sym, subst, true}
use Rattle.std.specs.Prelude.{IsSome, is_some}
use Rattle.std.proofs.lemmas.Result.{on_ok_weaker}
use Rattle.aggregates.specs.declared.kind.AggKind.{AggKind}
use Rattle.measure_index.specs.Index.{ranking_of}
use Rattle.query_answers.specs.Queries.{names_kind}
use Rattle.query_answers.proofs.Measured.{named-kept}
use Rattle.query_answers.proofs.Taken.{within-named}
use Rattle.query_script.specs.Queries.{query_in}
use Rattle.query_answers.proofs.query.answer_present.Goals as goal

pub returns-clause-steps : goal.returns-clause-steps
returns-clause-steps g c =
    let s = c.args.warehouse.now.state in
    let kept : (kind : AggKind) → names_kind s.schema kind ≡ true → is_some (ranking_of kind c.index.result.now) ≡ true
    = λ kind named.
    subst (λ x. IsSome (ranking_of kind x)) (sym c.index.ensures.value)
    (named-kept s.schema kind c.args.warehouse.now.index s.schema.indexes
    c.index.ensures.valid.index.kinds named) in
    on_ok_weaker c.answer_query.result (within-named s _ _ kept (query_in c.args.query.now) _ _)
    (c.answer_query.ensures.steps s.rows (record {
      state = c.tree.ensures.valid.state;
      canonical
          = rw c.tree.ensures.value c.tree.ensures.valid.tree;
    }))
