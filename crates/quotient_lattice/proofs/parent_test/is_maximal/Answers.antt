use Rattle.std.proofs.Common.{sym, ap, ◌∙◌, arith}
use Rattle.cells_below.specs.Marks.{is_marked}
use Rattle.cells_below.proofs.CallerLemmas.{turned-lt}
use Rattle.quotient_lattice.proofs.Numbers.{first_true, most_more, most_stops, second_true}
use Rattle.quotient_lattice.proofs.parent_test.is_maximal.Goals as goal
use Rattle.quotient_lattice.proofs.parent_test.is_maximal.Goals.{else-not-is_bit_set-via-then-not-is_bit_set+else-not-get}
use Rattle.quotient_lattice.proofs.parent_test.is_maximal.Goals.{else-not-is_bit_set-via-else-not-is_bit_set}

pub get-requires : goal.get-requires
get-requires c = omega (arith, turned-lt c.args.d c.args.m c.bits.k c.requires.number c.bits-test.true)

pub returns-then-not-get : goal.returns-then-not-get
returns-then-not-get c =
    most_stops c.args.marks.now c.args.m c.args.d c.bits.k c.bits-test.true (sym c.if-not-is_bit_set.ensures)
    (sym (c.if-not-get.ensures ∙ ap (is_marked c.args.marks.now) c.flip_bit.ensures))

pub bits-preserved : goal.bits-preserved
bits-preserved c = most_more c.args.marks.now c.args.m c.bits.k c.bits.invariant
    (elim c.else-not-is_bit_set.branch [
      | else-not-is_bit_set-via-then-not-is_bit_set+else-not-get w ↦ second_true _ _
          (sym (w.if-not-get.ensures ∙ ap (is_marked c.args.marks.now) w.flip_bit.ensures))
      | else-not-is_bit_set-via-else-not-is_bit_set w ↦ first_true _ _ (sym w.if-not-is_bit_set.ensures)
    ])
