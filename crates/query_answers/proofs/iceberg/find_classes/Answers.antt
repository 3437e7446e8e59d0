use Rattle.std.proofs.Common.{◌≡◌, ◌∙◌, ℕ, ap, ap₂, sym, subst, length, rules}
use Rattle.std.specs.Prelude.{IfSome}
use Rattle.std.specs.List.{All}
use Rattle.std.proofs.lemmas.Result.{IfOk-weaker}
use Rattle.aggregates.specs.Views.{fraction_in, kind_in}
use Rattle.cube_defs.specs.Answers as answers
use Rattle.cube_defs.specs.Text.{text_cmp}
use Rattle.iceberg_query.specs.Asked.{bound_in}
use Rattle.iceberg_query.specs.Hits.{decoded_classes}
use Rattle.lower_bounds.specs.Classes.{hit_in}
use Rattle.measure_index.specs.Index.{ranking_of}
use Rattle.qc_schema.specs.Schema.{Layout}
use Rattle.value_dict.specs.Decoded.{IsDecodableClass}
use Rattle.warehouse.specs.State.{source_of, with_rows}
use Rattle.query_answers.specs.Queries.{scale_of}
use Rattle.query_answers.proofs.Measured.{measure-there, scale-is}
use Rattle.query_answers.proofs.Recoded.{rows-known, rows-told}
use Rattle.query_answers.proofs.SomeRows.{some-tree, tree-of}
use Rattle.query_answers.proofs.iceberg.find_classes.Goals as goal

pub scale_of_kind-requires-clause-layout : goal.scale_of_kind-requires-clause-layout
scale_of_kind-requires-clause-layout g c = rw c.schema.ensures.value c.schema.ensures.valid.state.consistent.layout

pub scale_of_kind-requires-clause-measured : goal.scale_of_kind-requires-clause-measured
scale_of_kind-requires-clause-measured g c = rw c.schema.ensures.value c.requires.measured

pub iceberg-requires : goal.iceberg-requires
iceberg-requires g c = record {
  tree = some-tree _ _ _ c.requires.source.rows;
  unit =
      let kind = c.args.condition.kind in
      let scale = scale-is c.args.source.now.warehouse.now.state.schema kind
      ∙ sym (c.scale_of_kind.ensures.value
      ∙ ap (λ (l : Layout). scale_of l.measures (kind_in kind)) c.schema.ensures.value) in
      subst (λ (n : ℕ). IfSome (ranking_of kind c.args.source.now.index.now) (λ r. r.scale ≡ n)) scale
      (c.requires.source.unit kind);
  dims = ap length c.dict.ensures.texts ∙ c.dict.ensures.valid.state.consistent.lists
      ∙ sym c.requires.source.rows.wide;
  measure =
      let s = with_rows c.args.source.now.warehouse.now.state c.requires.source.rows.rows in (
        source_of s,
        tree-of _ _ _ c.requires.source.rows s.rows c.requires.source.rows.kept,
        measure-there (length s.schema.measures) c.args.condition.kind c.requires.measured,
      );
  index = search rules;
}

pub returns : goal.returns
returns g c = record {
  classes = λ rows has.
      let s = with_rows c.args.source.now.warehouse.now.state rows in
      let scale = c.scale_of_kind.ensures.value
      ∙ ap (λ (l : Layout). scale_of l.measures (kind_in c.args.condition.kind)) c.schema.ensures.value in
      let ask = ap (λ (n : ℕ). let a : answers.Ask
      = record {
        kind = kind_in c.args.condition.kind;
        scale = n;
        bound = bound_in c.args.condition.bound;
        value
            = fraction_in c.args.condition.value;
      } in a) scale in
      IfOk-weaker c.iceberg.result _ _
      (λ classes e.
      ap (λ l. decoded_classes l classes.items) (sym c.dict.ensures.texts) ∙ e
      ∙ ap₂ (answers.iceberg text_cmp (length s.schema.measures))
      (rows-told s has.state c.dict.result.now.lists c.dict.ensures.texts) ask)
      (c.iceberg.ensures.classes (source_of s) (tree-of _ _ _ c.requires.source.rows rows has)
      (rows-known s has.state c.dict.result.now.lists c.dict.ensures.texts));
  told =
      let rows = c.requires.source.rows.rows in
      let has = c.requires.source.rows.kept in
      let s = with_rows c.args.source.now.warehouse.now.state rows in
      IfOk-weaker c.iceberg.result _ _
      (λ classes e. subst (λ l. All (λ class. IsDecodableClass l (length s.schema.measures) (hit_in class)) classes.items)
      c.dict.ensures.texts e)
      (c.iceberg.ensures.told (source_of s) (tree-of _ _ _ c.requires.source.rows rows has)
      (rows-known s has.state c.dict.result.now.lists c.dict.ensures.texts));
  steps = λ there. rw (← c.requires.source.rows.wide) (c.iceberg.ensures.steps there);
  walked = λ rows has.
      rw (← c.requires.source.rows.wide)
      (c.iceberg.ensures.walked (source_of (with_rows c.args.source.now.warehouse.now.state rows))
      (tree-of _ _ _ c.requires.source.rows rows has));
}
