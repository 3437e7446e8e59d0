use Rattle.std.proofs.Common.{length, ◌≡◌}
use Rattle.qc_arena.specs.Marks.{AreMarkedUpTo, KeepsMarks}
use Rattle.qc_arena.proofs.marks.Marks.add_all.Given as goal

abbrev pub invariant-numbers : goal.invariant-numbers
invariant-numbers l = (length l.self.words.items ≡ length l.fn.self.words.items)
    × KeepsMarks l.fn.self.words.items l.self.words.items × AreMarkedUpTo l.at l.self.words.items l.fn.numbers
