use Rattle.std.proofs.Common.{◌≡◌, ◌∙◌, ◌+◌, ◌-◌, ◌++◌, ℕ, ap, arith, length, sym}
use Rattle.qc_arena.specs.Numbers.{Numbers, run}
use Rattle.qc_arena.proofs.Runs.{long, push_run}
use Rattle.qc_arena.proofs.number_list.NumberList.pop.Goals as goal

pub returns-then-self-clause-items : goal.returns-then-self-clause-items
returns-then-self-clause-items c =
    let m = c.self.inside in
    let last : m.end ≡ m.end - 1 + 1 = omega (arith, c.if-self.true) in
    sym (ap (λ (n : Numbers). n.items) c.self.view_is)
    ∙ ap (λ (k : ℕ). m.listed.items ++ run m.first k) last
    ∙ push_run m.listed.items m.first (m.end - 1) (omega (arith, c.if-self.true))

pub returns-then-self-clause-cases : goal.returns-then-self-clause-cases
returns-then-self-clause-cases c =
    let m = c.self.inside in
    omega (
      arith,
      c.if-self.true,
      ap (λ (n : Numbers). length n.items) c.self.view_is,
      long m.listed.items m.first m.end,
      long m.listed.items m.first (m.end - 1),
    )
