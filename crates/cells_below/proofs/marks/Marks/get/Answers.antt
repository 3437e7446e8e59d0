use Rattle.std.proofs.Common.{◌<◌, length, sym, subst, ap, ◌∙◌, arith}
use Rattle.std.proofs.lemmas.List.{get_or_read}
use Rattle.cells_below.specs.Marks.{bits_of, is_marked}
use Rattle.cells_below.proofs.Bits.{mark_read, word_within}
use Rattle.cells_below.proofs.marks.Marks.get.Goals as goal

pub index-requires : goal.index-requires
index-requires c =
    let l : c.args.m < length (bits_of c.self.inside.words.items)
    = subst (λ v. c.args.m < length v) (sym c.self.view_is) c.requires in
    omega (arith, c.self.inside.words.ok.0, word_within c.self.inside.words.items c.args.m l)

pub returns : goal.returns
returns c =
    let l : c.args.m < length (bits_of c.self.inside.words.items)
    = subst (λ v. c.args.m < length v) (sym c.self.view_is) c.requires in
    mark_read c.self.inside.words.items c.args.m c.index.result.now l
    (get_or_read c.self.inside.words.items _ _ (word_within c.self.inside.words.items c.args.m l) c.index.ensures 0)
    ∙ ap (λ v. is_marked v c.args.m) c.self.view_is
