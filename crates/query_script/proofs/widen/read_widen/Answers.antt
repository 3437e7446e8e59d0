use Rattle.std.proofs.Common.{◌≡◌, ◌∙◌, ap, refl, sym, true}
use Rattle.qc_schema.specs.Grammar.{is_new_name}
use Rattle.query_script.specs.Lines.{word_of}
use Rattle.query_script.specs.Widens.{has_value}
use Rattle.query_script.proofs.widen.read_widen.Goals as goal

pub returns : goal.returns
returns c =
    let word = c.as_bytes.ensures.value ∙ c.split_command.ensures.word in
    let new : is_new_name c.args.schema.now (word_of c.args.rest.now) ≡ true
    = ap (is_new_name c.args.schema.now) (sym word) ∙ sym c.may_name.ensures ∙ c.if-not-may_name.false in
    let valued : has_value c.args.rest.now ≡ true = sym c.has_short_value.ensures ∙ c.if-not-has_short_value.false in
    rw (new, valued) (rw (
      c.in_ok-new.ensures,
      c.in_ok-new-2.ensures,
      c.split_command.ensures.word,
      c.split_command.ensures.rest,
    ) refl)
