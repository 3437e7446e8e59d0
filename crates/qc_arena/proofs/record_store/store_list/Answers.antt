use Rattle.std.proofs.Common.{◌≡◌, Option, None, arith, subst}
use Rattle.std.specs.Prelude.{IfSome}
use Rattle.qc_arena.specs.KeptSlot.{Kept}
use Rattle.qc_arena.proofs.Listed.{list_room, stored_here, stored_listed, stored_others}
use Rattle.qc_arena.proofs.record_store.store_list.Goals as goal

pub insert-place-requires-clause-room : goal.insert-place-requires-clause-room
insert-place-requires-clause-room c =
    let fewer = list_room c.args.store.now.records c.args.store.now.lists c.args.node c.args.store.now.listed c.requires.node
    c.requires.unlisted in
    let room = c.args.store.now.listed.room in omega (arith, fewer, room)

pub insert-place-requires-clause-few : goal.insert-place-requires-clause-few
insert-place-requires-clause-few c =
    let fewer = list_room c.args.store.now.records c.args.store.now.lists c.args.node c.args.store.now.listed c.requires.node
    c.requires.unlisted in
    let small = c.args.store.now.listed.small in omega (arith, fewer, small)

pub invariant_of-store : goal.invariant_of-store
invariant_of-store c =
    let i = c.insert-place.ensures in
    record {
      listed = stored_listed c.args.store.now.records c.args.store.now.lists c.insert-place.new.self c.args.store.now.listed c.args.node
          c.insert-place.result c.index_mut.result.now c.set_place.new.self c.args.list c.index_mut.ensures.value
          (subst (λ (o : Option Kept). IfSome o (λ h. h.place ≡ None)) c.index_mut.ensures.value c.requires.unlisted)
          c.set_place.ensures i.free i.updates i.len i.capacity;
    }

pub returns-clause-here : goal.returns-clause-here
returns-clause-here c =
    let i = c.insert-place.ensures in
    stored_here c.args.store.now.records c.args.store.now.lists c.insert-place.new.self c.args.store.now.listed c.args.node
    c.insert-place.result c.index_mut.result.now c.set_place.new.self c.args.list c.index_mut.ensures.value
    (subst (λ (o : Option Kept). IfSome o (λ h. h.place ≡ None)) c.index_mut.ensures.value c.requires.unlisted)
    c.set_place.ensures i.free i.updates i.len i.capacity

pub returns-clause-others : goal.returns-clause-others
returns-clause-others c =
    let i = c.insert-place.ensures in
    stored_others c.args.store.now.records c.args.store.now.lists c.insert-place.new.self c.args.store.now.listed c.args.node
    c.insert-place.result c.index_mut.result.now c.set_place.new.self c.args.list c.index_mut.ensures.value
    (subst (λ (o : Option Kept). IfSome o (λ h. h.place ≡ None)) c.index_mut.ensures.value c.requires.unlisted)
    c.set_place.ensures i.free i.updates i.len i.capacity
