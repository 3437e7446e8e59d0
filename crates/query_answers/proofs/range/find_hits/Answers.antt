use Rattle.std.proofs.Common.{◌∙◌, ap, sym, subst, arith, length, rules}
use Rattle.std.specs.List.{All}
use Rattle.std.proofs.lemmas.Result.{IfOk-weaker}
use Rattle.range_query.specs.DecodedHits.{IsDecodableHit, hit_in, decoded_hits}
use Rattle.warehouse.specs.State.{source_of, with_rows}
use Rattle.query_answers.proofs.Recoded.{range-told, rows-known, work-told}
use Rattle.query_answers.proofs.SomeRows.{some-tree, tree-of}
use Rattle.query_answers.proofs.range.find_hits.Goals as goal

pub range-requires-clause-tree : goal.range-requires-clause-tree
range-requires-clause-tree g c = some-tree _ _ _ c.requires.source.rows

pub returns-in-Ok : goal.returns-in-Ok
returns-in-Ok g c = record {
  hits = λ rows has.
      let s = with_rows c.args.source.now.warehouse.now.state rows in
      IfOk-weaker c.range.result _ _
      (λ hits e. ap (λ l. decoded_hits l hits.items) (sym c.dict-dict.ensures.texts) ∙ e
      ∙ range-told s has.state c.dict-dict.result.now.lists c.dict-dict.ensures.texts c.in-Ok.cells c.args.asked.now
      c.in-Ok.ensures.value (length s.schema.measures))
      (c.range.ensures.hits (source_of s) (tree-of _ _ _ c.requires.source.rows rows has)
      (rows-known s has.state c.dict-dict.result.now.lists c.dict-dict.ensures.texts));
  told =
      let rows = c.requires.source.rows.rows in
      let has = c.requires.source.rows.kept in
      let s = with_rows c.args.source.now.warehouse.now.state rows in
      IfOk-weaker c.range.result _ _
      (λ hits e. subst (λ l. All (λ hit. IsDecodableHit l (length s.schema.measures) (hit_in hit)) hits.items)
      c.dict-dict.ensures.texts e)
      (c.range.ensures.told (source_of s) (tree-of _ _ _ c.requires.source.rows rows has)
      (rows-known s has.state c.dict-dict.result.now.lists c.dict-dict.ensures.texts));
  too_many = λ e rows has.
      let s = with_rows c.args.source.now.warehouse.now.state rows in
      let same = range-told s has.state c.dict-dict.result.now.lists c.dict-dict.ensures.texts c.in-Ok.cells
      c.args.asked.now c.in-Ok.ensures.value (length s.schema.measures) in
      let more = c.range.ensures.too_many e (source_of s) (tree-of _ _ _ c.requires.source.rows rows has)
      (rows-known s has.state c.dict-dict.result.now.lists c.dict-dict.ensures.texts) in
      omega (arith, more, ap length same);
  steps = λ rows has.
      let s = with_rows c.args.source.now.warehouse.now.state rows in
      let same = work-told s has.state c.dict-dict.result.now.lists c.dict-dict.ensures.texts c.in-Ok.cells
      c.args.asked.now c.in-Ok.ensures.value in
      let taken = c.range.ensures.bounded (source_of s) (tree-of _ _ _ c.requires.source.rows rows has)
      (rows-known s has.state c.dict-dict.result.now.lists c.dict-dict.ensures.texts) in
      omega (arith, taken, same);
  few = search rules;
}
