use Rattle.std.proofs.Common.{ap, sym, ◌∙◌, arith, inl, inr, Some}
use Rattle.aggregates.proofs.Digits.{length-digits_prefix}
use Rattle.aggregates.proofs.Reading.{id_in-large, id_in-none, id_in-some}
use Rattle.aggregates.proofs.read.read_id.Goals as goal
use Rattle.aggregates.proofs.read.read_id.Goals.{then-digits-eq0-via-then-digits-eq0, then-digits-eq0-via-else-digits-eq0+then-digits-text}

pub returns-in_err-digits : goal.returns-in_err-digits
returns-in_err-digits c = c.from_residual.ensures ∙ sym (id_in-large c.args.text.now c.in_err-digits.ensures)

pub returns-then-digits-eq0 : goal.returns-then-digits-eq0
returns-then-digits-eq0 c =
    elim c.then-digits-eq0.branch [
      | then-digits-eq0-via-then-digits-eq0 w
          ↦ sym (id_in-none c.args.text.now (inl (omega (arith, c.in_ok-digits.ensures))))
      | then-digits-eq0-via-else-digits-eq0+then-digits-text w
          ↦ sym (id_in-none c.args.text.now (inr (omega (arith, c.in_ok-digits.ensures))))
    ]

pub returns : goal.returns
returns c =
    let e = c.in_ok-digits.ensures in
    ap (λ n. Some n) e.0
    ∙ sym (id_in-some c.args.text.now (omega (arith, e)) (omega (arith, e)) (length-digits_prefix c.args.text.now)
    (omega (arith, e)))
