use Rattle.std.proofs.Common.{◌≡◌, Option, None, subst}
use Rattle.std.specs.Prelude.{IfSome}
use Rattle.qc_arena.specs.KeptSlot.{Kept}
use Rattle.qc_arena.proofs.Listed.{own_listed}
use Rattle.qc_arena.proofs.record_store.list_own.Goals as goal

pub returns-clause-same : goal.returns-clause-same
returns-clause-same c =
    own_listed c.args.store.now.records c.store_list.new.store.records c.args.store.now.lists c.store_list.new.store.lists c.args.node
    c.index.result.now c.index.ensures
    (subst (λ (o : Option Kept). IfSome o (λ h. h.place ≡ None)) c.index.ensures c.requires.unlisted)
    c.own_edges-list.result c.own_edges-list.ensures c.store_list.ensures.here c.store_list.ensures.others
