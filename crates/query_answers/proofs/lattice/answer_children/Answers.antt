use Rattle.std.proofs.Common.{◌≡◌, ◌≤◌, ◌+◌, ◌*◌, length, sym, ap, subst, ◌∙◌, arith}
use Rattle.std.specs.Ordering.{nat_cmp}
use Rattle.std.proofs.lemmas.List.{length-map}
use Rattle.std.proofs.lemmas.Result.{IfOk-weaker}
use Rattle.cube_defs.specs.Text.{text_cmp}
use Rattle.quotient_lattice.specs.Neighbours.{children}
use Rattle.quotient_lattice.specs.Candidates.{edges_on_way}
use Rattle.quotient_lattice.specs.Costs.{edges_to}
use Rattle.quotient_lattice.specs.DecodedNodes.{decoded_node, decoded_nodes}
use Rattle.quotient_lattice.proofs.CallerLemmas.{way_is}
use Rattle.lower_bounds.proofs.CallerLemmas.{class_there}
use Rattle.qc_arena.specs.RecordReaders.{record_at}
use Rattle.value_dict.specs.Decoded.{decoded_cell}
use Rattle.warehouse.specs.State.{coded_rows, source_of, with_rows}
use Rattle.query_answers.specs.Lattice.{related, upper_of, uppers_text}
use Rattle.query_answers.specs.Queries.{cell_of_fields}
use Rattle.query_answers.proofs.Recoded.{rows-known}
use Rattle.query_answers.proofs.RelatedSteps.{none-within, related-within, sixteen-within}
use Rattle.query_answers.proofs.SomeRows.{some-tree, tree-of}
use Rattle.query_answers.proofs.Uppers.{moved}
use Rattle.query_answers.proofs.lattice.answer_children.Goals as goal

pub children-requires-clause-tree : goal.children-requires-clause-tree
children-requires-clause-tree g c = some-tree _ _ _ c.requires.source.rows

pub returns-in-Ok-clause-reply : goal.returns-in-Ok-clause-reply
returns-in-Ok-clause-reply g c = λ rows has.
    let s = with_rows c.args.source.now.warehouse.now.state rows in
    let tree = g.T.Nodes.tree c.args.source.now.tree.now in
    let lists = c.dict.result.now.lists in
    let found = c.in-Ok.ensures.nodes (source_of s) (tree-of _ _ _ c.requires.source.rows rows has)
    (rows-known s has.state lists c.dict.ensures.texts) in
    let here = moved (children text_cmp) s has.state lists c.dict.ensures.texts tree c.in-Some.node
    c.in-Ok.nodes.items found in
    IfOk-weaker c.nodes_reply.result _ _
    (λ reply e. e ∙ ap (λ nodes. uppers_text s c.args.number (decoded_nodes s.texts tree nodes)) c.deref.ensures.value
    ∙ ap (uppers_text s c.args.number) here
    ∙ ap (related s c.args.number (children text_cmp s.rows)) (c.in-Some.ensures.upper rows has))
    (c.nodes_reply.ensures.reply rows has)

pub returns-in_default-clause-steps : goal.returns-in_default-clause-steps
returns-in_default-clause-steps g c = λ rows has.
    let s = with_rows c.args.source.now.warehouse.now.state rows in
    none-within s (children text_cmp s.rows) (λ u. edges_to nat_cmp (coded_rows s) u + 1)
    (upper_of s (cell_of_fields c.args.asked.now)) c.args.steps.now c.find_upper_node.new.steps
    c.in_default.ensures.steps

pub returns-in-Err-clause-steps : goal.returns-in-Err-clause-steps
returns-in-Err-clause-steps g c = λ rows has.
    let s = with_rows c.args.source.now.warehouse.now.state rows in
    let tree = g.T.Nodes.tree c.args.source.now.tree.now in
    let cell = (record_at tree c.in-Some.node.0).cell in
    related-within s (children text_cmp s.rows) (λ u. edges_to nat_cmp (coded_rows s) u + 1)
    (upper_of s (cell_of_fields c.args.asked.now)) cell (decoded_cell s.texts cell) 0 c.args.steps.now
    c.find_upper_node.new.steps c.children.new.steps c.children.new.steps (c.in-Some.ensures.code rows has)
    (c.in-Some.ensures.upper rows has) (omega arith) c.in-Some.ensures.steps
    (subst (λ e. c.children.new.steps ≤ c.find_upper_node.new.steps + 17 * (length s.schema.dims + 1) * (e + 1))
    (way_is _ tree (source_of s) (tree-of _ _ _ c.requires.source.rows rows has) c.in-Some.node.0
    (class_there tree c.in-Some.node.0 c.in-Some.ensures.class))
    (sixteen-within _ _ (edges_on_way tree c.in-Some.node.0 + 1) _ _ c.requires.source.rows.wide
    c.in-Err.ensures.steps)) (omega arith)

pub returns-in-Ok-clause-steps : goal.returns-in-Ok-clause-steps
returns-in-Ok-clause-steps g c = λ rows has.
    let s = with_rows c.args.source.now.warehouse.now.state rows in
    let tree = g.T.Nodes.tree c.args.source.now.tree.now in
    let cell = (record_at tree c.in-Some.node.0).cell in
    let lists = c.dict.result.now.lists in
    let found = c.in-Ok.ensures.nodes (source_of s) (tree-of _ _ _ c.requires.source.rows rows has)
    (rows-known s has.state lists c.dict.ensures.texts) in
    let here = moved (children text_cmp) s has.state lists c.dict.ensures.texts
    tree c.in-Some.node c.in-Ok.nodes.items found in
    let few : length c.deref.result.now ≡ length (children text_cmp s.rows (decoded_cell s.texts cell))
    = ap length c.deref.ensures.value ∙ sym (length-map c.in-Ok.nodes.items (decoded_node s.texts tree))
    ∙ ap length here in
    related-within s (children text_cmp s.rows) (λ u. edges_to nat_cmp (coded_rows s) u + 1)
    (upper_of s (cell_of_fields c.args.asked.now)) cell (decoded_cell s.texts cell) (length c.deref.result.now)
    c.args.steps.now c.find_upper_node.new.steps c.children.new.steps c.nodes_reply.new.steps
    (c.in-Some.ensures.code rows has) (c.in-Some.ensures.upper rows has) (omega (arith, few))
    c.in-Some.ensures.steps
    (subst (λ e. c.children.new.steps ≤ c.find_upper_node.new.steps + 17 * (length s.schema.dims + 1) * (e + 1))
    (way_is _ tree (source_of s) (tree-of _ _ _ c.requires.source.rows rows has) c.in-Some.node.0
    (class_there tree c.in-Some.node.0 c.in-Some.ensures.class))
    (sixteen-within _ _ (edges_on_way tree c.in-Some.node.0 + 1) _ _ c.requires.source.rows.wide
    c.in-Ok.ensures.steps)) c.nodes_reply.ensures.steps
