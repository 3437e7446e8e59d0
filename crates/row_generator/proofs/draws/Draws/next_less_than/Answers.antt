use Rattle.std.proofs.Common.{ℕ, ◌+◌, ◌*◌, ◌/◌, ◌%◌, ◌^◌, ap}
use Rattle.std.proofs.Math.Nat.{mod-add-mod}
use Rattle.row_generator.specs.Generator.{after_draw, number_drawn}
use Rattle.row_generator.proofs.draws.Draws.next_less_than.Goals as goal

pub returns-clause-state : goal.returns-clause-state
unfolding after_draw
returns-clause-state c = mod-add-mod (c.args.self.now.state * 6364136223846793005) (2 ^ 64) 1442695040888963407

pub returns-clause-number : goal.returns-clause-number
unfolding number_drawn
returns-clause-number c =
    ap (λ (m : ℕ). (c.args.self.now.state * 6364136223846793005 % 18446744073709551616 + 1442695040888963407) %
    18446744073709551616 / 8589934592 % m) c.from.ensures
