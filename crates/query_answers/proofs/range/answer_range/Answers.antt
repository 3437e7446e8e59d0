use Rattle.std.proofs.Common.{Err, ℕ, List, ap, arith, length, refl, ◌∙◌, ◌≡◌, ◌≤◌, ◌<◌}
use Rattle.std.specs.Prelude.{false, nat_lt, true}
use Rattle.std.proofs.lemmas.Bool.Decides.{nat_tests}
use Rattle.std.proofs.lemmas.List.{length-map}
use Rattle.cube_defs.specs.Answers.{Hit}
use Rattle.cube_defs.specs.Text.{Text}
use Rattle.qc_schema.specs.Schema.{Layout}
use Rattle.range_query.specs.DecodedHits.{decoded_hit, decoded_hits, hit_in}
use Rattle.range_query.specs.declared.hit.Hit as hits
use Rattle.reply_text.specs.Replies.{many_texts, range_reply, range_text, refused_text}
use Rattle.range_query.specs.declared.TheConstants.{MAX_RANGE_CELLS}
use Rattle.warehouse.specs.State.{with_rows}
use Rattle.query_answers.specs.Queries.{hits_of}
use Rattle.std.proofs.lemmas.Result.{err_from_is_err_and}
use Rattle.query_answers.proofs.range.answer_range.Goals as goal

pub returns-in_ok-reply-in-Ok-clause-steps : goal.returns-in_ok-reply-in-Ok-clause-steps
returns-in_ok-reply-in-Ok-clause-steps g c = c.find_hits.ensures.steps

pub returns-in_err-reply-in-Ok : goal.returns-in_err-reply-in-Ok
returns-in_err-reply-in-Ok g c =
    let p = err_from_is_err_and c.from_residual.result c.from_residual.ensures.1 in
    record { reply = λ rows has. rw p.1 tt; steps = c.find_hits.ensures.steps }

pub returns-in-Err-TooMany-clause-steps : goal.returns-in-Err-TooMany-clause-steps
returns-in-Err-TooMany-clause-steps g c = c.find_hits.ensures.steps

pub returns-in-Err-Memory : goal.returns-in-Err-Memory
returns-in-Err-Memory g c = record { reply = λ rows has. tt; steps = c.find_hits.ensures.steps }

pub find_hits-requires-clause-source : goal.find_hits-requires-clause-source
find_hits-requires-clause-source g c = c.requires.source

pub range_reply-requires : goal.range_reply-requires
range_reply-requires g c =
    rw (c.deref.ensures.value, c.dict.ensures.texts, c.schema.ensures.value) c.in-Ok.ensures.told

pub refused-requires : goal.refused-requires
refused-requires g c = c.many_refusal.ensures.short

-- the reply to hits that are few
told : (now schema : Layout) (line : ℕ) (lists texts : List (List Text)) (shown items : List hits.Hit)
    (found : List (Hit Text)) (reply : List ℕ) → reply ≡ range_text line now.measures (decoded_hits lists shown)
    → now ≡ schema → lists ≡ texts → shown ≡ items → decoded_hits texts items ≡ found
    → length items ≤ MAX_RANGE_CELLS → reply ≡ range_reply schema line found
told now schema line lists texts shown items found reply said same listed is hit few =
    let fits : length found ≤ MAX_RANGE_CELLS = omega (
      arith,
      ap length hit,
      length-map items (λ (hit : hits.Hit). decoded_hit texts (hit_in hit)),
    ) in
    let none : nat_lt MAX_RANGE_CELLS (length found) ≡ false = grind (arith, nat_tests) in
    rw none (cc)

-- the reply to hits that are many
many : (schema : Layout) (line : ℕ) (found : List (Hit Text)) → MAX_RANGE_CELLS < length found
    → refused_text line many_texts ≡ range_reply schema line found
many schema line found more =
    let some : nat_lt MAX_RANGE_CELLS (length found) ≡ true = grind (arith, nat_tests) in
    rw some refl

pub returns-in_ok-reply-in-Ok-clause-reply : goal.returns-in_ok-reply-in-Ok-clause-reply
returns-in_ok-reply-in-Ok-clause-reply g c = λ rows has.
    let s = c.args.source.now.warehouse.now.state in
    told c.schema.result.now s.schema c.args.number c.dict.result.now.lists s.texts c.deref.result.now
    c.in-Ok.hits.items (hits_of (with_rows s rows) c.args.asked.now) c.in_ok-reply-in-Ok.reply.items
    c.in_ok-reply-in-Ok.ensures c.schema.ensures.value c.dict.ensures.texts c.deref.ensures.value
    (c.in-Ok.ensures.hits rows has) c.in-Ok.ensures.few

pub returns-in-Err-TooMany-clause-reply : goal.returns-in-Err-TooMany-clause-reply
returns-in-Err-TooMany-clause-reply g c = λ rows has.
    let s = with_rows c.args.source.now.warehouse.now.state rows in
    c.refused.ensures ∙ ap (refused_text c.args.number) c.many_refusal.ensures.texts
    ∙ many s.schema c.args.number (hits_of s c.args.asked.now)
    (c.in-Err-TooMany.ensures.too_many (ap Err c.in-Err-TooMany.field-0-is) rows has)
