use Rattle.std.proofs.Common.{length, map, sym, ap, subst, ◌∙◌}
use Rattle.std.specs.List.{All}
use Rattle.cube_defs.specs.Text.{text_cmp}
use Rattle.iceberg_query.specs.Hits.{decoded_classes}
use Rattle.lower_bounds.specs.Classes.{hit_in}
use Rattle.qc_schema.specs.Schema.{Layout}
use Rattle.quotient_lattice.specs.Neighbours.{class_alone}
use Rattle.quotient_lattice.specs.DecodedNodes.{decoded_nodes}
use Rattle.quotient_lattice.proofs.CallerLemmas.{alone_tellable, alone_told}
use Rattle.reply_text.specs.Replies.{iceberg_text}
use Rattle.value_dict.specs.Decoded.{IsDecodableClass}
use Rattle.warehouse.specs.State.{source_of, with_rows}
use Rattle.query_answers.proofs.Recoded.{rows-known, rows-told}
use Rattle.query_answers.proofs.SomeRows.{tree-of}
use Rattle.query_answers.proofs.Uppers.{each-class}
use Rattle.query_answers.proofs.lattice.nodes_reply.Goals as goal

pub iceberg_reply-requires : goal.iceberg_reply-requires
iceberg_reply-requires g c =
    let rows = c.requires.source.rows.rows in
    let has = c.requires.source.rows.kept in
    let s = with_rows c.args.source.now.warehouse.now.state rows in
    let tree = g.T.Nodes.tree c.args.source.now.tree.now in
    let source = source_of s in
    let dict = c.dict-dict.result.now in
    let nodes = c.args.nodes.now in
    let classes = c.in_ok-classes.classes.items in
    let known = rows-known s has.state dict.lists c.dict-dict.ensures.texts in
    let e = c.in_ok-classes.ensures.classes source (tree-of _ _ _ c.requires.source.rows rows has) in
    let told = alone_tellable _ tree dict source (tree-of _ _ _ c.requires.source.rows rows has)
    c.dims-dims.ensures.dictionary known (ap length c.dict-dict.ensures.texts
    ∙ c.dict-dict.ensures.valid.state.consistent.lists ∙ sym c.requires.source.rows.wide) nodes classes
    (each-class tree nodes c.requires.classes) e in
    subst (λ xs. All (λ class. IsDecodableClass dict.lists (length c.schema.result.now.measures) (hit_in class)) xs)
    (sym c.deref.ensures.value)
    (subst (λ (l : Layout). All (λ class. IsDecodableClass dict.lists (length l.measures) (hit_in class)) classes)
    (sym c.schema.ensures.value) told)

pub returns-clause-reply : goal.returns-clause-reply
returns-clause-reply g c = λ rows has.
    let s = with_rows c.args.source.now.warehouse.now.state rows in
    let tree = g.T.Nodes.tree c.args.source.now.tree.now in
    let source = source_of s in
    let dict = c.dict-dict.result.now in
    let nodes = c.args.nodes.now in
    let classes = c.in_ok-classes.classes.items in
    let known = rows-known s has.state dict.lists c.dict-dict.ensures.texts in
    let e = c.in_ok-classes.ensures.classes source (tree-of _ _ _ c.requires.source.rows rows has) in
    let told = alone_told _ tree dict source (tree-of _ _ _ c.requires.source.rows rows has)
    c.dims-dims.ensures.dictionary known (ap length c.dict-dict.ensures.texts
    ∙ c.dict-dict.ensures.valid.state.consistent.lists ∙ sym c.requires.source.rows.wide) nodes classes
    (each-class tree nodes c.requires.classes) e in
    c.in_ok-reply.ensures
    ∙ ap (λ (l : Layout). iceberg_text c.args.number l.measures (decoded_classes dict.lists c.deref.result.now))
    c.schema.ensures.value
    ∙ ap (λ xs. iceberg_text c.args.number s.schema.measures (decoded_classes dict.lists xs)) c.deref.ensures.value
    ∙ ap (iceberg_text c.args.number s.schema.measures) told
    ∙ ap (λ rows. iceberg_text c.args.number s.schema.measures
    (map (class_alone text_cmp (length s.schema.measures) rows) (decoded_nodes dict.lists tree nodes)))
    (rows-told s has.state dict.lists c.dict-dict.ensures.texts)
    ∙ ap (λ lists. iceberg_text c.args.number s.schema.measures
    (map (class_alone text_cmp (length s.schema.measures) s.rows) (decoded_nodes lists tree nodes)))
    c.dict-dict.ensures.texts
