use Rattle.std.proofs.Common.{◌≡◌, ◌∙◌, rules}
use Rattle.slab.specs.Slab as slots
use Rattle.qc_arena.specs.Records.{nodes_of}
use Rattle.qc_arena.proofs.record_store.reserve_at.Goals as goal

pub returns-in-Some : goal.returns-in-Some
returns-in-Some c q =
    let kept : slots.get (nodes_of c.make_list.new.store.records c.reserve_at.new.self) q
    ≡ slots.get (nodes_of c.make_list.new.store.records c.make_list.new.store.lists) q = search rules in
    kept ∙ c.make_list.ensures.same q
