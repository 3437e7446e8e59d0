use Rattle.std.proofs.Common.{◌≡◌, ◌≤◌, ◌+◌, ◌*◌, ℕ, length, sym, ap, subst, ◌∙◌, arith}
use Rattle.std.specs.Ordering.{nat_cmp}
use Rattle.std.specs.Prelude.{All, IsSome}
use Rattle.std.proofs.lemmas.List.{length-map}
use Rattle.std.proofs.lemmas.Result.{IfOk-weaker}
use Rattle.aggregates.specs.Views.{fraction_in, kind_in}
use Rattle.cell_core.specs.declared.cell.NodeNo.{NodeNo}
use Rattle.cube_defs.specs.Answers as answers
use Rattle.cube_defs.specs.Text.{text_cmp}
use Rattle.iceberg_query.specs.Asked.{bound_in}
use Rattle.qc_schema.specs.Schema.{IsLayout, Layout}
use Rattle.query_script.specs.Commands.{IsMeasured}
use Rattle.quotient_lattice.specs.Neighbours as lattice
use Rattle.quotient_lattice.specs.Costs.{size_from}
use Rattle.quotient_lattice.specs.DecodedNodes.{decoded_node, decoded_nodes}
use Rattle.qc_arena.specs.RecordReaders.{record_at}
use Rattle.reply_text.specs.Words.{reply_bytes}
use Rattle.value_dict.specs.Decoded.{decoded_cell}
use Rattle.warehouse.specs.State.{coded_rows, source_of, with_rows}
use Rattle.query_answers.specs.Lattice.{related, upper_of}
use Rattle.query_answers.specs.Queries.{ask_of, cell_of_fields, scale_of}
use Rattle.query_answers.proofs.Measured.{measure-there}
use Rattle.query_answers.proofs.Recoded.{rows-known}
use Rattle.query_answers.proofs.RelatedSteps.{none-within, related-within}
use Rattle.query_answers.proofs.SomeRows.{some-tree, tree-of}
use Rattle.query_answers.proofs.Uppers.{moved, rolled-told}
use Rattle.query_answers.proofs.lattice.answer_rollup.Goals as goal

pub rollup-requires-clause-tree : goal.rollup-requires-clause-tree
rollup-requires-clause-tree g c = some-tree _ _ _ c.requires.asked.source.rows

pub rollup-requires-clause-measure : goal.rollup-requires-clause-measure
rollup-requires-clause-measure g c =
    let s = with_rows c.args.source.now.warehouse.now.state c.requires.asked.source.rows.rows in (
      source_of s,
      tree-of _ _ _ c.requires.asked.source.rows s.rows c.requires.asked.source.rows.kept,
      measure-there (length s.schema.measures) c.args.condition.kind c.requires.measured,
    )

pub returns-in-Ok-clause-reply : goal.returns-in-Ok-clause-reply
returns-in-Ok-clause-reply g c = λ rows has.
    let s = with_rows c.args.source.now.warehouse.now.state rows in
    let tree = g.T.Nodes.tree c.args.source.now.tree.now in
    let lists = c.dict.result.now.lists in
    let asked : answers.Ask = record {
      kind = kind_in c.args.condition.kind;
      scale = c.scale_of_kind.result;
      bound
          = bound_in c.args.condition.bound;
      value = fraction_in c.args.condition.value;
    } in
    let scale = c.scale_of_kind.ensures.value
    ∙ ap (λ (l : Layout). scale_of l.measures (kind_in c.args.condition.kind)) c.schema.ensures.value in
    let found = c.in-Ok.ensures.nodes (source_of s) (tree-of _ _ _ c.requires.asked.source.rows rows has)
    (rows-known s has.state lists c.dict.ensures.texts) in
    let here = ap (decoded_nodes s.texts tree) c.deref.ensures.value
    ∙ moved (λ rows u. lattice.rollup text_cmp (length s.schema.measures) rows asked u) s has.state lists
    c.dict.ensures.texts tree c.in-Some.node c.in-Ok.nodes.items found in
    IfOk-weaker c.nodes_reply.result _ _
    (λ reply told. rolled-told s c.args.number (kind_in c.args.condition.kind) (bound_in c.args.condition.bound)
    (fraction_in c.args.condition.value) c.scale_of_kind.result (cell_of_fields c.args.asked.now)
    (decoded_cell s.texts (record_at tree c.in-Some.node.0).cell) (decoded_nodes s.texts tree c.deref.result.now)
    (reply_bytes reply) told here (c.in-Some.ensures.upper rows has) scale)
    (c.nodes_reply.ensures.reply rows has)

pub returns-in_default-clause-steps : goal.returns-in_default-clause-steps
returns-in_default-clause-steps g c = λ rows has.
    let s = with_rows c.args.source.now.warehouse.now.state rows in
    let asked : answers.Ask = ask_of s.schema.measures (kind_in c.args.condition.kind) (bound_in c.args.condition.bound)
    (fraction_in c.args.condition.value) in
    none-within s (lattice.rollup text_cmp (length s.schema.measures) s.rows asked) (size_from nat_cmp (coded_rows s))
    (upper_of s (cell_of_fields c.args.asked.now)) c.args.steps.now c.find_upper_node.new.steps
    c.in_default.ensures.steps

pub returns-in-Err-clause-steps : goal.returns-in-Err-clause-steps
returns-in-Err-clause-steps g c = λ rows has.
    let s = with_rows c.args.source.now.warehouse.now.state rows in
    let tree = g.T.Nodes.tree c.args.source.now.tree.now in
    let cell = (record_at tree c.in-Some.node.0).cell in
    let asked : answers.Ask = ask_of s.schema.measures (kind_in c.args.condition.kind) (bound_in c.args.condition.bound)
    (fraction_in c.args.condition.value) in
    related-within s (lattice.rollup text_cmp (length s.schema.measures) s.rows asked) (size_from nat_cmp (coded_rows s))
    (upper_of s (cell_of_fields c.args.asked.now)) cell (decoded_cell s.texts cell) 0 c.args.steps.now
    c.find_upper_node.new.steps c.rollup.new.steps c.rollup.new.steps (c.in-Some.ensures.code rows has)
    (c.in-Some.ensures.upper rows has) (omega arith) c.in-Some.ensures.steps
    (subst (λ m. c.rollup.new.steps ≤ c.find_upper_node.new.steps + 17 * (m + 1) * size_from nat_cmp (coded_rows s) cell)
    c.requires.asked.source.rows.wide
    (c.in-Err.ensures.steps (source_of s) (tree-of _ _ _ c.requires.asked.source.rows rows has))) (omega arith)

pub returns-in-Ok-clause-steps : goal.returns-in-Ok-clause-steps
returns-in-Ok-clause-steps g c = λ rows has.
    let s = with_rows c.args.source.now.warehouse.now.state rows in
    let tree = g.T.Nodes.tree c.args.source.now.tree.now in
    let cell = (record_at tree c.in-Some.node.0).cell in
    let lists = c.dict.result.now.lists in
    let asked : answers.Ask = ask_of s.schema.measures (kind_in c.args.condition.kind) (bound_in c.args.condition.bound)
    (fraction_in c.args.condition.value) in
    let scale = c.scale_of_kind.ensures.value
    ∙ ap (λ (l : Layout). scale_of l.measures (kind_in c.args.condition.kind)) c.schema.ensures.value in
    let scaled : ℕ → answers.Ask = λ n. record {
      kind = kind_in c.args.condition.kind;
      scale = n;
      bound = bound_in c.args.condition.bound;
      value = fraction_in c.args.condition.value;
    } in
    let found = c.in-Ok.ensures.nodes (source_of s) (tree-of _ _ _ c.requires.asked.source.rows rows has)
    (rows-known s has.state lists c.dict.ensures.texts) in
    let here = moved (λ rows u. lattice.rollup text_cmp (length s.schema.measures) rows (scaled c.scale_of_kind.result) u)
    s has.state lists c.dict.ensures.texts tree c.in-Some.node c.in-Ok.nodes.items found in
    let few : length c.deref.result.now
    ≡ length (lattice.rollup text_cmp (length s.schema.measures) s.rows asked (decoded_cell s.texts cell))
    = ap length c.deref.ensures.value ∙ sym (length-map c.in-Ok.nodes.items (decoded_node s.texts tree))
    ∙ ap length here
    ∙ ap (λ n. length (lattice.rollup text_cmp (length s.schema.measures) s.rows (scaled n)
    (decoded_cell s.texts cell))) scale in
    related-within s (lattice.rollup text_cmp (length s.schema.measures) s.rows asked) (size_from nat_cmp (coded_rows s))
    (upper_of s (cell_of_fields c.args.asked.now)) cell (decoded_cell s.texts cell) (length c.deref.result.now)
    c.args.steps.now c.find_upper_node.new.steps c.rollup.new.steps c.nodes_reply.new.steps
    (c.in-Some.ensures.code rows has) (c.in-Some.ensures.upper rows has) (omega (arith, few))
    c.in-Some.ensures.steps
    (subst (λ m. c.rollup.new.steps ≤ c.find_upper_node.new.steps + 17 * (m + 1) * size_from nat_cmp (coded_rows s) cell)
    c.requires.asked.source.rows.wide
    (c.in-Ok.ensures.steps (source_of s) (tree-of _ _ _ c.requires.asked.source.rows rows has))) c.nodes_reply.ensures.steps

pub scale_of_kind-requires : goal.scale_of_kind-requires
scale_of_kind-requires g c = record {
  layout = subst IsLayout (sym c.schema.ensures.value) c.schema.ensures.valid.state.consistent.layout;
  measured = subst (λ (l : Layout). IsMeasured (length l.measures) (kind_in c.args.condition.kind))
      (sym c.schema.ensures.value) c.requires.measured;
}

pub invariant_of-ask : goal.invariant_of-ask
invariant_of-ask g c = record { in_range = c.scale_of_kind.ensures.few }

pub rollup-requires-clause-class : goal.rollup-requires-clause-class
rollup-requires-clause-class g c = c.in-Some.ensures.class

pub nodes_reply-requires : goal.nodes_reply-requires
nodes_reply-requires g c = record {
  classes = subst (All (λ (node : NodeNo). IsSome (record_at (g.T.Nodes.tree c.args.source.now.tree.now) node.0).class))
      (sym c.deref.ensures.value) c.in-Ok.ensures.classes;
  source = c.requires.asked.source;
}

pub returns-in_default-clause-reply : goal.returns-in_default-clause-reply
returns-in_default-clause-reply g c = λ rows has.
    let s = with_rows c.args.source.now.warehouse.now.state rows in
    let asked : answers.Ask = ask_of s.schema.measures (kind_in c.args.condition.kind) (bound_in c.args.condition.bound)
    (fraction_in c.args.condition.value) in
    c.none_reply.ensures
    ∙ ap (related s c.args.number (lattice.rollup text_cmp (length s.schema.measures) s.rows asked))
    (c.in_default.ensures.upper rows has)
