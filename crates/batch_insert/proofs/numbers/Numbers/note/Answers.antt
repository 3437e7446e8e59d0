use Rattle.std.proofs.Common.{Some, nat_eq, if◌then◌else◌, ap, ◌∙◌}
use Rattle.batch_insert.proofs.Paged.{noted}
use Rattle.batch_insert.proofs.numbers.Numbers.note.Goals as goal

pub returns : goal.returns
returns c = λ m.
    noted c.open.new.self.pages.items c.index_mut-places.result.now c.args.mask c.args.node c.in_ok-open.ensures.there
    c.index_mut-places.ensures.value c.in_ok-open.ensures.places m
    ∙ ap (λ o. if nat_eq c.args.mask m then Some c.args.node.0 else o) (c.open.ensures.numbers m
    ∙ c.reach.ensures.numbers m)
