use Rattle.std.proofs.Common.{ap, length, length-append, ◌∙◌}
use Rattle.qc_arena.specs.Entries.{all_new}
use Rattle.qc_arena.proofs.Merges.{put_first, put_second, put_first_once, put_second_once}
use Rattle.qc_arena.proofs.sorted_images.SortedImages.put.Goals as goal

pub returns-in-Changed-clause-once : goal.returns-in-Changed-clause-once
returns-in-Changed-clause-once c =
    let m = c.args.self.now in
    put_first_once m.changed.items c.push_reserved.new.self.items (all_new m.added.items) c.args.node c.in-Changed.image
    c.requires.none c.push_reserved.ensures.items c.requires.once

pub returns-in-Changed-clause-put : goal.returns-in-Changed-clause-put
returns-in-Changed-clause-put c =
    let m = c.args.self.now in
    rw c.in-Changed.is (put_first m.changed.items c.push_reserved.new.self.items
    (all_new m.added.items) c.args.node c.in-Changed.image c.requires.none c.push_reserved.ensures.items)

pub returns-in-Added-clause-once : goal.returns-in-Added-clause-once
returns-in-Added-clause-once c =
    let m = c.args.self.now in
    put_second_once m.changed.items m.added.items c.push_reserved-in-Added.new.self.items c.args.node c.requires.none
    c.push_reserved-in-Added.ensures.items c.requires.once

pub returns-in-Added-clause-put : goal.returns-in-Added-clause-put
returns-in-Added-clause-put c =
    let m = c.args.self.now in
    rw c.in-Added.is (put_second m.changed.items m.added.items c.push_reserved-in-Added.new.self.items c.args.node
    c.requires.none c.push_reserved-in-Added.ensures.items)

pub returns-in-Changed-clause-changed : goal.returns-in-Changed-clause-changed
returns-in-Changed-clause-changed c =
    rw c.in-Changed.is (ap length c.push_reserved.ensures.items ∙ length-append c.args.self.now.changed.items _)

pub returns-in-Added-clause-added : goal.returns-in-Added-clause-added
returns-in-Added-clause-added c =
    rw c.in-Added.is (ap length c.push_reserved-in-Added.ensures.items ∙ length-append c.args.self.now.added.items _)
