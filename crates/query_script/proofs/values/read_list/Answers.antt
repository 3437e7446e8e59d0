use Rattle.std.proofs.Common.{rules, ◌≡◌, ◌∷◌, ◌++◌, ◌∙◌, [], List, ℕ, length, sym, ap, arith, Some, None, append_assoc}
use Rattle.std.proofs.lemmas.List.{length-append, length_push}
use Rattle.std.proofs.lemmas.Str.Pattern.{split_parts}
use Rattle.text_lines.specs.Cuts.{cut_at}
use Rattle.text_lines.proofs.CallerLemmas.{split-cut}
use Rattle.query_script.proofs.values.read_list.Goals as goal

pub pieces-preserved : goal.pieces-preserved
pieces-preserved c =
    let cut : cut_at 124 c.pieces.left.now ≡ c.in-Some.piece.now ∷ cut_at 124 c.in-Some.behind.now
    = split-cut 124 c.pieces.left.now (Some (c.in-Some.piece, c.in-Some.behind)) c.in-Some.ensures.cases
    (omega arith) in
    let parts = split_parts 124 c.pieces.left.now (Some (c.in-Some.piece, c.in-Some.behind)) c.in-Some.ensures.cases
    (omega arith) in
    record {
      cut = rw (c.in_ok-push.ensures.ok, c.in_ok-new.ensures)
          (append_assoc c.pieces.texts (c.in-Some.piece.now ∷ []) (cut_at 124 c.in-Some.behind.now)
          ∙ ap (λ (more : List (List ℕ)). c.pieces.texts ++ more) (sym cut) ∙ c.pieces.invariant.cut);
      room = omega (
        arith,
        ap length c.in_ok-push.ensures.ok,
        length_push c.pieces.texts c.in_ok-new.field-0,
        ap length parts.0,
        length-append c.in-Some.piece.now (124 ∷ c.in-Some.behind.now),
        c.pieces.invariant.room,
      );
      text = search rules;
    }

pub returns : goal.returns
returns c =
    let cut : cut_at 124 c.pieces.left.now ≡ c.pieces.left.now ∷ []
    = split-cut 124 c.pieces.left.now None c.in_default.ensures.cases (omega arith) in
    rw (c.in_ok-push-2.ensures.ok, c.in_ok-new-2.ensures)
    (ap (λ (more : List (List ℕ)). c.pieces.texts ++ more) (sym cut) ∙ c.pieces.invariant.cut)
