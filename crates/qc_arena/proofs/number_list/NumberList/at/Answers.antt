use Rattle.std.proofs.Common.{◌≡◌, ◌∙◌, ◌+◌, ◌-◌, ℕ, ap, arith, get_or, length, sym}
use Rattle.qc_arena.specs.Numbers.{Numbers}
use Rattle.qc_arena.proofs.Runs.{at_run, long}
use Rattle.qc_arena.proofs.number_list.NumberList.at.Goals as goal

pub overflow_add-result : goal.overflow_add-result
overflow_add-result c =
    let m = c.self.inside in
    omega (
      arith,
      c.requires,
      c.len-listed.ensures,
      m.listed.ok.0,
      c.if-place-listed.false,
      c.self.invariant.rises,
      c.self.invariant.small,
      ap (λ (n : Numbers). length n.items) c.self.view_is,
      long m.listed.items m.first m.end,
    )

pub overflow_cast-result : goal.overflow_cast-result
overflow_cast-result c =
    let m = c.self.inside in
    omega (
      arith,
      c.requires,
      c.len-listed.ensures,
      m.listed.ok.0,
      c.if-place-listed.false,
      c.self.invariant.rises,
      c.self.invariant.small,
      ap (λ (n : Numbers). length n.items) c.self.view_is,
      long m.listed.items m.first m.end,
    )

pub returns : goal.returns
returns c =
    let m = c.self.inside in
    let whole = ap (λ (n : Numbers). length n.items) c.self.view_is in
    let len : c.len-listed.result ≡ length m.listed.items = omega (arith, c.len-listed.ensures, m.listed.ok.0) in
    let value : ℕ = m.first + (c.args.place - c.len-listed.result) in
    sym (ap (λ (n : Numbers). get_or n.items c.args.place value) (sym c.self.view_is)
    ∙ at_run m.listed.items m.first m.end c.args.place value (omega (arith, len, c.if-place-listed.false))
    (omega (arith, c.requires, whole, long m.listed.items m.first m.end))
    ∙ ap (λ (k : ℕ). m.first + (c.args.place - k)) (sym len))
