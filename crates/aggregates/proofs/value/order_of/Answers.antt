use Rattle.std.proofs.Common.{ap, ap₂, arith, pos, w64, ℕ, ◌*ℤ◌, ◌∙◌}
use Rattle.std.specs.Ordering.{int_cmp}
use Rattle.std.proofs.lemmas.Int.{ints, to_z-of_z}
use Rattle.aggregates.proofs.Ratios.{order-over, small-product}
use Rattle.aggregates.proofs.value.order_of.Goals as goal

pub returns-then-den-other_den : goal.returns-then-den-other_den
returns-then-den-other_den c =
    c.cmp.ensures
    ∙ ap₂ int_cmp (to_z-of_z w64 c.args.num c.ranges.num) (to_z-of_z w64 c.args.other_num c.ranges.other_num)
    ∙ order-over c.args.num c.args.other_num c.args.den c.requires.positive
    ∙ ap (λ (k : ℕ). int_cmp (c.args.num *ℤ pos k) (c.args.other_num *ℤ pos c.args.den)) c.if-den-other_den.true

pub cross-requires : goal.cross-requires
cross-requires c = small-product _ _ 9223372036854775808 18446744073709551615 _ (omega (arith, ints, c.from.ensures))
    (omega arith) (omega arith)

pub cross-requires-2 : goal.cross-requires-2
cross-requires-2 c = small-product _ _ 9223372036854775808 18446744073709551615 _
    (omega (arith, ints, c.from-2.ensures)) (omega arith) (omega arith)
