use Rattle.std.proofs.Common.{◌∙◌, List, ap, arith, sym}
use Rattle.std.specs.Prelude.{is_some}
use Rattle.std.proofs.lemmas.Result.{on_ok_weaker}
use Rattle.cube_defs.specs.Text.{Text}
use Rattle.query_script.specs.Queries.{query_in}
use Rattle.reply_text.specs.Replies.{refused_text}
use Rattle.warehouse.specs.Counted.{AreCounted}
use Rattle.warehouse.specs.State.{HasTree, with_rows}
use Rattle.qc_session.proofs.Costs.{bare-within}
use Rattle.qc_session.proofs.PinAnswers.{at-none, at-version, rows-of}
use Rattle.qc_session.proofs.pins.answer_at.Goals as goal

pub returns-in_default : goal.returns-in_default
returns-in_default g c =
    let found = rw c.as_str.ensures.value at c.in_default.ensures.none in
    record {
      reply =
          c.refused.ensures
          ∙ ap (λ (texts : List Text). refused_text c.args.number texts) c.not_pinned_refusal.ensures.texts
          ∙ sym (at-none c.args.held.now c.args.number c.args.name.now (query_in c.args.query.now) found);
      steps = rw (rows-of c.args.held.now.pins c.args.name.now, found) (omega arith);
    }

pub answer_query-reply-requires-clause-source : goal.answer_query-reply-requires-clause-source
answer_query-reply-requires-clause-source g c =
    let (version, found, is) = c.in-Some.ensures.some in
    record {
      rows = record {
        rows = version.rows;
        kept = rw (c.now.ensures.value, is.tree) is.has;
        wide
            = rw c.now.ensures.value is.width;
      };
      indexed = c.in-Ok.ensures.index _;
      unit = λ kind. rw (c.in-Ok.ensures.kinds kind) tt;
    }

pub returns : goal.returns
returns g c =
    let (version, found, is) = rw c.as_str.ensures.value at c.in-Some.ensures.some in
    let has : HasTree (with_rows c.now.result.now.state version.rows) c.in-Some.view.tree
    = rw (c.now.ensures.value, is.tree) is.has in
    let counted : AreCounted version.rows c.stats.result = rw c.stats.ensures is.stats in
    let reply = rw c.now.ensures.value at (c.answer_query-reply.ensures.reply version.rows has counted) in
    let state = with_rows c.args.held.now.now.state version.rows in
    let steps = rw c.now.ensures.value at (c.answer_query-reply.ensures.steps version.rows has) in
    record {
      reply = rw (at-version c.args.held.now c.args.number c.args.name.now (query_in c.args.query.now) version found) reply;
      steps = rw (rows-of c.args.held.now.pins c.args.name.now, found) (on_ok_weaker c.answer_query-reply.result
          (bare-within state _ (λ kind. ap is_some (c.in-Ok.ensures.kinds kind)) (query_in c.args.query.now) _ _) steps);
    }
