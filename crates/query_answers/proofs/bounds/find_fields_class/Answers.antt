use Rattle.std.proofs.Common.{◌∙◌, sym}
use Rattle.std.proofs.lemmas.Result.{IfOk-weaker}
use Rattle.warehouse.specs.State.{source_of, with_rows}
use Rattle.query_answers.proofs.Asked.{length-found}
use Rattle.query_answers.proofs.DecodedClasses.{state-found, state-none}
use Rattle.query_answers.proofs.SomeRows.{some-tree, tree-of}
use Rattle.query_answers.proofs.bounds.find_fields_class.Goals as goal

pub returns-in_default-clause-value : goal.returns-in_default-clause-value
returns-in_default-clause-value g c = λ rows has.
    state-none (with_rows c.args.source.now.warehouse.now.state rows) has.state c.dict.result.now.lists
    c.args.asked.now c.dict.ensures.texts c.requires.dims c.requires.point (sym c.in_default.is ∙ c.cell_of.ensures)

pub find_class-requires : goal.find_class-requires
find_class-requires g c = record {
  dims = length-found c.dict.result.now.lists c.args.asked.now c.in-Some.cell (sym c.cell_of.ensures ∙ c.in-Some.is)
      ∙ c.requires.dims ∙ sym c.requires.source.rows.wide;
  tree = some-tree _ _ _ c.requires.source.rows;
}

pub returns : goal.returns
returns g c = record {
  value = λ rows has.
      let s = with_rows c.args.source.now.warehouse.now.state rows in
      let by = state-found s has.state c.dict.result.now.lists c.args.asked.now c.in-Some.cell in
      IfOk-weaker c.find_class.result _ _
      (λ found e. (by found c.dict.ensures.texts c.requires.point (sym c.in-Some.is ∙ c.cell_of.ensures) e).value)
      (c.find_class.ensures.class (source_of s) (tree-of _ _ _ c.requires.source.rows rows has));
  told =
      let rows = c.requires.source.rows.rows in
      let has = c.requires.source.rows.kept in
      let s = with_rows c.args.source.now.warehouse.now.state rows in
      let by = state-found s has.state c.dict.result.now.lists c.args.asked.now c.in-Some.cell in
      IfOk-weaker c.find_class.result _ _
      (λ found e. (by found c.dict.ensures.texts c.requires.point (sym c.in-Some.is ∙ c.cell_of.ensures) e).told)
      (c.find_class.ensures.class (source_of s) (tree-of _ _ _ c.requires.source.rows rows has));
  steps = rw c.requires.source.rows.wide at c.find_class.ensures.steps;
}
