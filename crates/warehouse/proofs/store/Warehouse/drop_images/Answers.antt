use Rattle.std.proofs.Common.{subst, sym}
use Rattle.qc_arena.specs.Map.{Arena}
use Rattle.warehouse.specs.Changing.{contents_of}
use Rattle.warehouse.specs.State.{AreContents}
use Rattle.warehouse.proofs.Trees.{is-held}
use Rattle.warehouse.proofs.store.Warehouse.drop_images.Goals as goal

pub returns-clause-valid : goal.returns-clause-valid
returns-clause-valid c =
    let inside = c.self.inside in
    let held = is-held inside.schema inside.cube inside.index c.self.invariant in
    subst (λ (tree : Arena). AreContents (contents_of inside.schema (record inside.cube { tree = tree }) inside.index))
    (sym c.drop_images.ensures)
    (record { state = held.state; tree = held.tree; index = held.index })
