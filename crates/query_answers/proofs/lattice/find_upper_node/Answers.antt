use Rattle.std.proofs.Common.{◌≡◌, length, sym, ap, ◌∙◌, arith}
use Rattle.std.specs.Prelude.{option_map}
use Rattle.tree_search.specs.Found.{closure_in}
use Rattle.warehouse.specs.State.{source_of, with_rows}
use Rattle.query_answers.specs.Lattice.{code_of}
use Rattle.query_answers.proofs.Asked.{length-found}
use Rattle.query_answers.proofs.SomeRows.{some-tree, tree-of}
use Rattle.query_answers.proofs.Uppers.{told-upper, upper-coded, upper-found, upper-none, upper-told}
use Rattle.query_answers.proofs.lattice.find_upper_node.Goals as goal

pub returns-in_default-clause-upper : goal.returns-in_default-clause-upper
returns-in_default-clause-upper g c = λ rows has.
    upper-none (with_rows c.args.source.now.warehouse.now.state rows) has.state c.dict.result.now.lists
    c.args.asked.now c.dict.ensures.texts c.requires.point c.requires.dims (sym c.in_default.is ∙ c.cell_of.ensures)

pub returns-in_default-clause-code : goal.returns-in_default-clause-code
returns-in_default-clause-code g c = λ rows has.
    let s = with_rows c.args.source.now.warehouse.now.state rows in
    ap (option_map (code_of s)) (upper-none s has.state c.dict.result.now.lists
    c.args.asked.now c.dict.ensures.texts c.requires.point c.requires.dims (sym c.in_default.is ∙ c.cell_of.ensures))

pub find-requires : goal.find-requires
find-requires g c = record {
  dims = length-found c.dict.result.now.lists c.args.asked.now c.in-Some.cell (sym c.cell_of.ensures ∙ c.in-Some.is)
      ∙ c.requires.dims ∙ sym c.requires.source.rows.wide;
  tree = some-tree _ _ _ c.requires.source.rows;
}

pub returns : goal.returns
returns g c = record {
  class =
      let some = some-tree _ _ _ c.requires.source.rows in
      let long : length c.in-Some.cell ≡ g.T.Nodes.width c.args.source.now.tree.now
      = length-found c.dict.result.now.lists c.args.asked.now c.in-Some.cell (sym c.cell_of.ensures ∙ c.in-Some.is)
      ∙ c.requires.dims ∙ sym c.requires.source.rows.wide in
      (upper-found _ _ some.0 some.1 c.in-Some.cell long c.find.result (c.find.ensures.found some.0 some.1)
      c.find.ensures.there).class;
  upper = λ rows has.
      let s = with_rows c.args.source.now.warehouse.now.state rows in
      let cell = c.in-Some.cell in
      let from = tree-of _ _ _ c.requires.source.rows rows has in
      let long : length cell ≡ g.T.Nodes.width c.args.source.now.tree.now
      = length-found c.dict.result.now.lists c.args.asked.now cell (sym c.cell_of.ensures ∙ c.in-Some.is)
      ∙ c.requires.dims ∙ sym c.requires.source.rows.wide in
      told-upper s.texts (g.T.Nodes.tree c.args.source.now.tree.now) c.find.result (closure_in (source_of s) cell)
      (upper-found _ _ (source_of s) from cell long c.find.result (c.find.ensures.found (source_of s) from)
      c.find.ensures.there).upper
      ∙ upper-told s has.state c.dict.result.now.lists c.args.asked.now c.dict.ensures.texts c.requires.point cell
      (sym c.in-Some.is ∙ c.cell_of.ensures);
  code = λ rows has.
      let s = with_rows c.args.source.now.warehouse.now.state rows in
      let cell = c.in-Some.cell in
      let from = tree-of _ _ _ c.requires.source.rows rows has in
      let long : length cell ≡ g.T.Nodes.width c.args.source.now.tree.now
      = length-found c.dict.result.now.lists c.args.asked.now cell (sym c.cell_of.ensures ∙ c.in-Some.is)
      ∙ c.requires.dims ∙ sym c.requires.source.rows.wide in
      (upper-found _ _ (source_of s) from cell long c.find.result (c.find.ensures.found (source_of s) from)
      c.find.ensures.there).upper
      ∙ upper-coded s has.state c.dict.result.now.lists c.args.asked.now c.dict.ensures.texts c.requires.point cell
      (sym c.in-Some.is ∙ c.cell_of.ensures);
  steps =
      let long : length c.in-Some.cell ≡ length c.args.asked.now
      = length-found c.dict.result.now.lists c.args.asked.now c.in-Some.cell (sym c.cell_of.ensures ∙ c.in-Some.is) in
      omega (arith, c.find.ensures.steps, long, c.requires.dims);
}
