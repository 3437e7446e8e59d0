use Rattle.std.proofs.Common.{pos, ◌-ℤ◌, ◌%◌, ◌<◌, arith, rules, w64}
use Rattle.std.proofs.lemmas.Int.{ints, to_z-of_z}
use Rattle.row_generator.specs.Generator.{amount_of}
use Rattle.row_generator.proofs.rows.amount.Goals as goal

pub returns : goal.returns
unfolding amount_of
returns c =
    let small : c.args.id % 1001 < 1001 = omega arith in
    rw c.from.ensures (rw (to_z-of_z w64 (pos (c.args.id % 1001)) (search rules))
    (to_z-of_z w64 (pos (c.args.id % 1001) -ℤ pos 500) (grind (arith, ints, small))))
