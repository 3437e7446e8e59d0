use Rattle.std.proofs.Common.{arith, sym, ap, ◌∙◌, ◌<◌, ◌≡◌, length}
use Rattle.std.proofs.lemmas.Bool.{eqb-false, eqb-true}
use Rattle.std.proofs.lemmas.List.{nil_from_length, take_rest}
use Rattle.text_lines.specs.Cuts.{words_of}
use Rattle.text_lines.proofs.WordSplits.{word-at, word-whole, words-empty}
use Rattle.text_lines.proofs.words.split_word.Goals as goal

pub returns-then-is_empty : goal.returns-then-is_empty
returns-then-is_empty c =
    let none : length c.trim_spaces-text.result.now ≡ 0
    = eqb-true (length c.trim_spaces-text.result.now) 0 (sym c.if-is_empty.ensures) in
    sym c.trim_spaces-text.ensures.words
    ∙ ap words_of (nil_from_length c.trim_spaces-text.result.now none) ∙ words-empty

pub returns-then-b-eq32 : goal.returns-then-b-eq32
returns-then-b-eq32 c = rw take_rest (
    sym c.trim_spaces-text.ensures.words
    ∙ word-at c.trim_spaces-text.result.now c.loop-i.i (omega arith) (c.trim_spaces-text.ensures.front (omega arith))
    (omega arith) c.loop-i.invariant)

pub returns : goal.returns
returns c =
    let some : 0 < length c.trim_spaces-text.result.now
    = omega (arith, eqb-false (length c.trim_spaces-text.result.now) 0 (sym c.if-is_empty.ensures)) in
    sym c.trim_spaces-text.ensures.words
    ∙ word-whole c.trim_spaces-text.result.now some (λ k h. c.loop-i.invariant k (omega arith))
