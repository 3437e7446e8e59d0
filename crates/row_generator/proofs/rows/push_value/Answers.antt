use Rattle.std.proofs.Common.{arith}
use Rattle.row_generator.specs.Generator.{number_drawn}
use Rattle.row_generator.proofs.rows.push_value.Goals as goal

pub push_small-requires : goal.push_small-requires
unfolding number_drawn
push_small-requires c =
    let drawn = c.next_less_than-number.ensures.number in
    omega (arith, drawn, c.requires.some, c.requires.few)
