use Rattle.std.proofs.Common.{ap, arith, length, ◌≡◌, ◌∙◌}
use Rattle.qc_arena.specs.Marks.{place_in}
use Rattle.qc_arena.proofs.MarkedNumbers.{marked_more}
use Rattle.qc_arena.proofs.marks.Marks.add.Goals as goal

pub returns-clause-marked : goal.returns-clause-marked
returns-clause-marked c =
    let words = c.args.self.now.words.items in
    let len : c.len.result ≡ length words = omega (arith, c.len.ensures) in
    marked_more words c.args.number c.word_of-word.result c.index_mut.result.now
    (c.word_of-word.ensures.place ∙ ap (λ k. place_in k c.args.number) len)
    (omega (arith, c.word_of-word.ensures.within, len)) c.index_mut.ensures.value
