use Rattle.std.proofs.Common.{◌≡◌, ◌∙◌, List, ap, subst, sym}
use Rattle.std.specs.Prelude.{length}
use Rattle.std.proofs.lemmas.Result.{IfOk-weaker}
use Rattle.cube_defs.specs.Text.{Text}
use Rattle.cube_laws.specs.Recoding.{RowsAreKnown, known_box}
use Rattle.range_query.specs.DecodedHits.{decoded_hits, decoded_range}
use Rattle.value_dict.specs.Boxes.{fields_box, decoded_box}
use Rattle.value_dict.specs.Recoded.{has_code}
use Rattle.value_dict.specs.Decoded.{has_text}
use Rattle.value_dict.proofs.CallerLemmas.{range-asked, rows-coded}
use Rattle.warehouse.specs.State.{coded_rows, source_of}
use Rattle.warehouse_tests.proofs.ranges.answer.Goals as goal

pub range-hits-requires-clause-tree : goal.range-hits-requires-clause-tree
range-hits-requires-clause-tree g c
    = (source_of c.args.shop.now.state, rw (c.tree.ensures.width, c.tree.ensures.value) c.tree.ensures.valid.tree)

pub returns-in-Ok : goal.returns-in-Ok
returns-in-Ok g c =
    let s = c.args.shop.now.state in
    let cells = c.in-Ok.cells in
    let asked = c.args.asked.now in
    let known = c.dict.ensures.valid.state.consistent.known in
    let box = subst (λ (l : List (List Text)). decoded_box l cells ≡ known_box (has_text l) 0 (fields_box l 0 asked))
    c.dict.ensures.texts c.in-Ok.ensures.value in
    let codes = subst (λ (l : List (List Text)). RowsAreKnown (has_code l) (coded_rows s))
    (sym c.dict-in-Ok.ensures.texts) (rows-coded s.texts s.rows known) in
    IfOk-weaker c.range-hits.result _ _
    (λ hits e.
    ap (λ (l : List (List Text)). decoded_hits l hits.items) (sym c.dict-in-Ok.ensures.texts)
    ∙ e
    ∙ ap (λ (l : List (List Text)). decoded_range l (source_of s) cells) c.dict-in-Ok.ensures.texts
    ∙ range-asked s.texts (length s.schema.measures) s.rows cells (fields_box s.texts 0 asked) known box)
    (c.range-hits.ensures.hits (source_of s)
    (rw (c.tree.ensures.width, c.tree.ensures.value) c.tree.ensures.valid.tree) codes)
