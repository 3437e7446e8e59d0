use Rattle.std.proofs.Common.{◌∙◌, Some, ap, sym}
use Rattle.qc_arena.specs.Entries.{all_new, entry_number}
use Rattle.qc_arena.proofs.Looked.{look_before, look_after, looked, once_before, one_at}
use Rattle.qc_arena.proofs.MarkedNumbers.{none_marked}
use Rattle.qc_arena.proofs.images.Images.look.Goals as goal

pub returns-in-Some-record : goal.returns-in-Some-record
returns-in-Some-record c =
    let m = c.self.inside in
    let found = one_at c.args.node.0 m.changed.items c.in-Some.at c.index.result.now
    (once_before _ _ c.self.invariant.0) c.in-Some.ensures.within c.index.ensures (ap entry_number c.index.ensures
    ∙ c.in-Some.ensures.some c.index.result.now) in
    ap (λ i. Some i) (sym c.in-Some-record.ensures.some)
    ∙ looked c.args.self.now _ c.args.node.0 _ c.self.view_is
    (look_before c.args.node.0 m.changed.items (all_new m.added.items) _ found)

pub returns-in-None : goal.returns-in-None
returns-in-None c =
    let m = c.self.inside in
    let found = one_at c.args.node.0 m.changed.items c.in-Some.at c.index.result.now
    (once_before _ _ c.self.invariant.0) c.in-Some.ensures.within c.index.ensures (ap entry_number c.index.ensures
    ∙ c.in-Some.ensures.some c.index.result.now) in
    ap (λ i. Some i) (sym c.in-None.ensures.none)
    ∙ looked c.args.self.now _ c.args.node.0 _ c.self.view_is
    (look_before c.args.node.0 m.changed.items (all_new m.added.items) _ found)

pub returns-then-has : goal.returns-then-has
returns-then-has c =
    let m = c.self.inside in
    looked c.args.self.now _ c.args.node.0 _ c.self.view_is
    (look_after c.args.node.0 m.changed.items (all_new m.added.items) c.in_default.ensures.none
    ∙ c.if-has.ensures)

pub returns : goal.returns
returns c =
    let m = c.self.inside in
    looked c.args.self.now _ c.args.node.0 _ c.self.view_is
    (look_after c.args.node.0 m.changed.items (all_new m.added.items) c.in_default.ensures.none
    ∙ c.if-has.ensures)

pub returns-then-not-may_have : goal.returns-then-not-may_have
returns-then-not-may_have c =
    let m = c.self.inside in
    looked c.args.self.now _ c.args.node.0 _ c.self.view_is
    (none_marked m.index c.args.node.0 m.changed.items m.added.items c.self.invariant.3 (c.may_have.ensures c.if-not-may_have.true))
