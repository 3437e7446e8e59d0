use Rattle.std.proofs.Common.{◌≡◌, ◌^◌, ◌<◌, ◌+◌, true, false, subst, sym, arith}
use Rattle.cells_below.specs.Closed.{IsMarkedBefore}
use Rattle.cells_below.specs.Marks.{is_least}
use Rattle.cells_below.proofs.Between.{is_bound, marked_more, no_bound, not_least, open_no_bound, unmarked_more}
use Rattle.cells_below.proofs.NeededBits.{lacking}
use Rattle.cells_below.proofs.closed.bounds_at.Goals as goal
use Rattle.cube_laws.specs.Parts.{value_count}

pub returns-then-not-is_minimal-clause-value : goal.returns-then-not-is_minimal-clause-value
returns-then-not-is_minimal-clause-value g c = λ source h.
    let values = c.args.upper.now.counted in
    no_bound source c.args.upper.now.cell.now c.args.marks.now c.args.m
    (subst (λ d. c.args.m < 2 ^ d) values c.requires.number) (c.requires.below source h)
    (subst (λ d. is_least c.args.marks.now d c.args.m ≡ false) values (sym c.if-not-is_minimal.ensures))

pub returns-then-not-is_minimal-clause-below : goal.returns-then-not-is_minimal-clause-below
returns-then-not-is_minimal-clause-below g c = λ source h.
    let u = c.args.upper.now.cell.now in
    let old = c.args.marks.now in
    let values = c.args.upper.now.counted in
    let l : c.args.m < 2 ^ value_count u = subst (λ d. c.args.m < 2 ^ d) values c.requires.number in
    let least = subst (λ d. is_least old d c.args.m ≡ false) values (sym c.if-not-is_minimal.ensures) in
    subst (λ marks. IsMarkedBefore source u marks (c.args.m + 1)) (sym c.set.ensures)
    (marked_more source u old c.args.m l (c.requires.below source h) (omega arith)
    (not_least source u old c.args.m l (c.requires.below source h) least))

pub returns-clause-value : goal.returns-clause-value
returns-clause-value g c = λ source h.
    let values = c.args.upper.now.counted in
    is_bound source c.args.upper.now.cell.now c.args.marks.now c.args.m
    (subst (λ d. c.args.m < 2 ^ d) values c.requires.number) (c.requires.below source h)
    (sym (c.if-not-closes_for_number.ensures.value source h))
    (subst (λ d. is_least c.args.marks.now d c.args.m ≡ true) values (sym c.if-not-is_minimal.ensures))

pub returns-then-not-has_all_bits-clause-value : goal.returns-then-not-has_all_bits-clause-value
returns-then-not-has_all_bits-clause-value g c = λ source h.
    open_no_bound source c.args.upper.now.cell.now c.args.m (lacking source c.args.upper.now.cell.now c.args.needed
    c.args.m (c.requires.needed source h) (sym c.if-not-has_all_bits.ensures))

pub returns-then-not-has_all_bits-clause-below : goal.returns-then-not-has_all_bits-clause-below
returns-then-not-has_all_bits-clause-below g c = λ source h.
    unmarked_more source c.args.upper.now.cell.now c.args.marks.now c.args.m (c.requires.below source h)
    (c.requires.above c.args.m (omega arith)) (lacking source c.args.upper.now.cell.now c.args.needed c.args.m
    (c.requires.needed source h) (sym c.if-not-has_all_bits.ensures))
