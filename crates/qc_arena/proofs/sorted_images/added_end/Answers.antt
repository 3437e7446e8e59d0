use Rattle.std.proofs.Common.{◌-◌, ◌∙◌, ap, arith, get_or, ℕ}
use Rattle.qc_arena.proofs.Merges.{new_end}
use Rattle.qc_arena.proofs.sorted_images.added_end.Goals as goal

pub at-requires : goal.at-requires
at-requires c = omega (arith, c.len-len.ensures.value, c.if-len-eq0.false)

pub returns-clause-end : goal.returns-clause-end
returns-clause-end c =
    let len = c.len-len.ensures.value in
    new_end c.args.added.now.items c.at.result (omega (arith, len, c.if-len-eq0.false))
    (c.at.ensures ∙ ap (λ (n : ℕ). get_or c.args.added.now.items (n - 1) c.at.result) len)
