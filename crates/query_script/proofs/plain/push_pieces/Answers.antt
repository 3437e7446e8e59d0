use Rattle.std.proofs.Common.{rules, arith, length, ◌∙◌, ◌≡◌, ◌∷◌, ◌++◌, [], List, sym, ap, Some, None}
use Rattle.std.proofs.lemmas.List.{length-append}
use Rattle.std.proofs.lemmas.Str.Pattern.{split_parts}
use Rattle.std.proofs.lemmas.Result.{IfErr-weaker, on_ok_weaker, err_from_is_err_and}
use Rattle.cube_defs.specs.Text.{Text}
use Rattle.text_lines.specs.Plain.{pieces}
use Rattle.query_script.specs.Progress.{asks}
use Rattle.text_lines.proofs.CallerLemmas.{split-cut}
use Rattle.query_script.proofs.plain.push_pieces.Goals as goal

pub pieces-preserved : goal.pieces-preserved
pieces-preserved c =
    let cut : pieces c.pieces.left.now ≡ c.in-Some.piece.now ∷ pieces c.in-Some.behind.now
    = split-cut 44 c.pieces.left.now (Some (c.in-Some.piece, c.in-Some.behind)) c.in-Some.ensures.cases
    (omega arith) in
    let parts = split_parts 44 c.pieces.left.now (Some (c.in-Some.piece, c.in-Some.behind)) c.in-Some.ensures.cases
    (omega arith) in
    record {
      asked = λ more.
          c.in_ok-push_field.ensures.ok (pieces c.in-Some.behind.now ++ more)
          ∙ ap (λ (all : List Text). asks c.pieces.so_far (all ++ more))
          (sym cut)
          ∙ c.pieces.invariant.asked more;
      size = omega (
        arith,
        ap length parts.0,
        length-append c.in-Some.piece.now (44 ∷ c.in-Some.behind.now),
        c.pieces.invariant.size,
      );
      text = search rules;
    }

pub returns-in_err-push_field-clause-err : goal.returns-in_err-push_field-clause-err
returns-in_err-push_field-clause-err c =
    let cut : pieces c.pieces.left.now ≡ c.in-Some.piece.now ∷ pieces c.in-Some.behind.now
    = split-cut 44 c.pieces.left.now (Some (c.in-Some.piece, c.in-Some.behind)) c.in-Some.ensures.cases
    (omega arith) in
    let p = err_from_is_err_and c.from_residual.result c.from_residual.ensures.1 in
    rw p.1 (λ more. rw (p.2, ← (c.pieces.invariant.asked more), cut)
    (c.in_err-push_field.ensures.err (pieces c.in-Some.behind.now ++ more)))

pub returns : goal.returns
returns c =
    let cut : pieces c.pieces.left.now ≡ c.pieces.left.now ∷ []
    = split-cut 44 c.pieces.left.now None c.in_default.ensures.cases (omega arith) in
    record {
      ok = on_ok_weaker c.push_field-2.result (λ ok more. ok more
          ∙ ap (λ (all : List Text). asks c.pieces.so_far (all ++ more))
          (sym cut) ∙ c.pieces.invariant.asked more) c.push_field-2.ensures.ok;
      err = IfErr-weaker c.push_field-2.result _ _ (λ e fails more. rw (← (c.pieces.invariant.asked more), cut) (fails more))
          c.push_field-2.ensures.err;
    }
