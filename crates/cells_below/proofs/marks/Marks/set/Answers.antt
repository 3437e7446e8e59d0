use Rattle.std.proofs.Common.{◌<◌, true, length, set, sym, subst, ap, ◌∙◌, arith}
use Rattle.std.proofs.lemmas.List.{get_or_read}
use Rattle.cells_below.specs.Marks.{bits_of}
use Rattle.cells_below.proofs.Bits.{mark_set, word_within}
use Rattle.cells_below.proofs.marks.Marks.set.Goals as goal

pub index_mut-requires : goal.index_mut-requires
index_mut-requires c =
    let l : c.args.m < length (bits_of c.self.inside.words.items)
    = subst (λ v. c.args.m < length v) (sym c.self.view_is) c.requires in
    omega (arith, c.self.inside.words.ok.0, word_within c.self.inside.words.items c.args.m l)

pub returns : goal.returns
returns c =
    let l : c.args.m < length (bits_of c.self.inside.words.items)
    = subst (λ v. c.args.m < length v) (sym c.self.view_is) c.requires in
    mark_set c.self.inside.words.items c.args.m c.index_mut.result.now l
    (get_or_read c.self.inside.words.items _ _ (word_within c.self.inside.words.items c.args.m l)
    c.index_mut.ensures.value 0)
    ∙ ap (λ v. set v c.args.m true) c.self.view_is
