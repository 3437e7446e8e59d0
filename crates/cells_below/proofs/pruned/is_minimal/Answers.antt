use Rattle.std.proofs.Common.{not, sym, ap, ◌∙◌, arith}
use Rattle.std.proofs.lemmas.Bool.{or_left, or_right}
use Rattle.cells_below.specs.Marks.{is_marked}
use Rattle.cells_below.proofs.BitByBit.{least_more, least_stops}
use Rattle.cells_below.proofs.Turned.{turned-lt}
use Rattle.cells_below.proofs.pruned.is_minimal.Goals as goal
use Rattle.cells_below.proofs.pruned.is_minimal.Goals.{else-is_bit_set-via-then-is_bit_set+else-get, else-is_bit_set-via-else-is_bit_set}

pub get-requires : goal.get-requires
get-requires c = omega (arith, turned-lt c.args.d c.args.m c.bits.k c.requires.number c.bits-test.true)

pub returns-then-get : goal.returns-then-get
returns-then-get c =
    least_stops c.args.marks.now c.args.m c.args.d c.bits.k c.bits-test.true (sym c.if-is_bit_set.ensures)
    (sym (c.if-get.ensures ∙ ap (is_marked c.args.marks.now) c.flip_bit.ensures))

pub bits-preserved : goal.bits-preserved
bits-preserved c = least_more c.args.marks.now c.args.m c.bits.k c.bits.invariant
    (elim c.else-is_bit_set.branch [
      | else-is_bit_set-via-then-is_bit_set+else-get w
          ↦ or_right _ _ (ap not (sym (w.if-get.ensures ∙ ap (is_marked c.args.marks.now) w.flip_bit.ensures)))
      | else-is_bit_set-via-else-is_bit_set w ↦ or_left _ _ (ap not (sym w.if-is_bit_set.ensures))
    ])
