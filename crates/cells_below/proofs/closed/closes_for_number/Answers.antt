use Rattle.std.proofs.Common.{◌≡◌, ℕ, ◌+◌, ◌^◌, ◌∙◌, ap, sym, arith}
use Rattle.std.proofs.lemmas.Nat.{one_shl}
use Rattle.cells_below.specs.Closed.{has_closure_in}
use Rattle.cells_below.proofs.Cells.{whole_cell}
use Rattle.cells_below.proofs.closed.closes_for_number.Goals as goal
use Rattle.cube_laws.specs.Parts.{value_count}

pub returns-then-m-upper-clause-value : goal.returns-then-m-upper-clause-value
returns-then-m-upper-clause-value g c = λ source h.
    let upper = c.args.upper.now in
    let bits : c.args.m + 1 ≡ 2 ^ upper.values = omega (arith, one_shl upper.values 32 (omega arith)) in
    let whole : c.args.m + 1 ≡ 2 ^ value_count upper.cell.now
    = bits ∙ ap (λ (n : ℕ). 2 ^ n) upper.counted in
    sym (ap (has_closure_in source upper.cell.now) (whole_cell upper.cell.now c.args.m whole)
    ∙ upper.own source h)
