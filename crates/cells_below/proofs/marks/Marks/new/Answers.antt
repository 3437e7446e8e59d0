use Rattle.std.proofs.Common.{◌+◌, ◌/◌, sym, ◌∙◌}
use Rattle.cells_below.proofs.Bits.{none_marked, room_for}
use Rattle.cells_below.proofs.marks.Marks.new.Goals as goal

pub returns-clause-room : goal.returns-clause-room
returns-clause-room c =
    room_for c.in_ok-words.words.items c.args.count (sym c.in_ok-words.words.ok.0 ∙ c.in_ok-words.ensures.len)

pub returns-clause-none : goal.returns-clause-none
returns-clause-none c =
    λ m. none_marked c.in_ok-words.words.items (c.args.count / 64 + 1) m
    (c.in_ok-words.ensures.items_if_clones_equal (λ y h. h))
