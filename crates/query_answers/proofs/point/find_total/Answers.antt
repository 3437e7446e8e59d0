use Rattle.std.proofs.Common.{◌∙◌, Some, arith, sym, ap}
use Rattle.std.specs.Prelude.{length, option_map}
use Rattle.aggregates.specs.Views.{agg_in}
use Rattle.warehouse.specs.State.{source_of, with_rows}
use Rattle.query_answers.specs.Queries.{cell_of_fields}
use Rattle.query_answers.proofs.Asked.{length-found, measured, total-found, total-none}
use Rattle.query_answers.proofs.DecodedClasses.{asked-texts, asked-told}
use Rattle.query_answers.proofs.SomeRows.{some-tree, tree-of}
use Rattle.query_answers.proofs.point.find_total.Goals as goal
use Rattle.tree_search.proofs.CallerLemmas.{total-at}

pub returns-in_err-cell-clause-value : goal.returns-in_err-cell-clause-value
returns-in_err-cell-clause-value g c = λ rows has.
    let s = with_rows c.args.source.now.warehouse.now.state rows in
    let none = total-none s.texts c.dict.result.now.lists (length s.schema.measures) s.rows c.args.asked.now
    c.dict.ensures.texts (c.requires.dims ∙ sym has.state.consistent.lists) has.state.consistent.known
    c.requires.point (sym c.cell_of.ensures ∙ c.in_err-cell.was) in
    ap (option_map (λ found. agg_in found.1)) c.from_residual.ensures ∙ sym none

pub total_at-requires : goal.total_at-requires
total_at-requires g c = record {
  dims = length-found c.dict.result.now.lists c.args.asked.now c.in_ok-cell.cell (sym c.cell_of.ensures ∙ c.in_ok-cell.was)
      ∙ c.requires.dims ∙ sym c.requires.source.rows.wide;
  tree = some-tree _ _ _ c.requires.source.rows;
}

pub returns-in_err-total-clause-value : goal.returns-in_err-total-clause-value
returns-in_err-total-clause-value g c = λ rows has.
    let s = with_rows c.args.source.now.warehouse.now.state rows in
    ap (option_map (λ found. agg_in found.1)) c.from_residual-in_err-total.ensures
    ∙ sym (ap (option_map agg_in) c.in_err-total.was)
    ∙ c.total_at.ensures.value (source_of s) (tree-of _ _ _ c.requires.source.rows rows has)
    ∙ total-at (source_of s) c.in_ok-cell.cell
    ∙ total-found s.texts c.dict.result.now.lists (length s.schema.measures) s.rows c.args.asked.now c.in_ok-cell.cell
    c.dict.ensures.texts has.state.consistent.known c.requires.point (sym c.cell_of.ensures ∙ c.in_ok-cell.was)

pub returns-in_err-total-clause-steps : goal.returns-in_err-total-clause-steps
returns-in_err-total-clause-steps g c =
    let long = length-found c.dict.result.now.lists c.args.asked.now c.in_ok-cell.cell (sym c.cell_of.ensures
    ∙ c.in_ok-cell.was) ∙ c.requires.dims in
    omega (arith, c.total_at.ensures.steps, long)

pub returns-clause-value : goal.returns-clause-value
returns-clause-value g c = λ rows has.
    let s = with_rows c.args.source.now.warehouse.now.state rows in
    sym (ap (option_map agg_in) c.in_ok-total.was)
    ∙ c.total_at.ensures.value (source_of s) (tree-of _ _ _ c.requires.source.rows rows has)
    ∙ total-at (source_of s) c.in_ok-cell.cell
    ∙ total-found s.texts c.dict.result.now.lists (length s.schema.measures) s.rows c.args.asked.now c.in_ok-cell.cell
    c.dict.ensures.texts has.state.consistent.known c.requires.point (sym c.cell_of.ensures ∙ c.in_ok-cell.was)

pub returns-clause-measures : goal.returns-clause-measures
returns-clause-measures g c =
    let s = with_rows c.args.source.now.warehouse.now.state c.requires.source.rows.rows in
    measured (length s.schema.measures) s.rows (cell_of_fields c.args.asked.now) (Some c.in_ok-total.total)
    (returns-clause-value g c c.requires.source.rows.rows c.requires.source.rows.kept)

pub returns-clause-told : goal.returns-clause-told
returns-clause-told g c =
    let s = c.args.source.now.warehouse.now.state in
    asked-told s.texts c.dict.result.now.lists c.args.asked.now c.in_ok-cell.cell c.dict.ensures.texts (c.requires.dims
    ∙ sym c.dict.ensures.valid.state.consistent.lists) c.requires.point (sym c.cell_of.ensures ∙ c.in_ok-cell.was)

pub returns-clause-texts : goal.returns-clause-texts
returns-clause-texts g c =
    let s = c.args.source.now.warehouse.now.state in
    asked-texts s.texts c.dict.result.now.lists c.args.asked.now c.in_ok-cell.cell c.dict.ensures.texts (c.requires.dims
    ∙ sym c.dict.ensures.valid.state.consistent.lists) c.requires.point (sym c.cell_of.ensures ∙ c.in_ok-cell.was)

pub returns-clause-steps : goal.returns-clause-steps
returns-clause-steps g c =
    let long = length-found c.dict.result.now.lists c.args.asked.now c.in_ok-cell.cell (sym c.cell_of.ensures
    ∙ c.in_ok-cell.was) ∙ c.requires.dims in
    omega (arith, c.total_at.ensures.steps, long)
