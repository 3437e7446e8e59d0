use Rattle.warehouse.proofs.Indexed.{unit-named}
use Rattle.warehouse.proofs.Trees.{is-held}
use Rattle.warehouse.proofs.store.Warehouse.index.Goals as goal

pub returns-clause-valid : goal.returns-clause-valid
returns-clause-valid c =
    rw (← c.self.view_is) (is-held c.self.inside.schema c.self.inside.cube c.self.inside.index c.self.invariant)

pub returns-clause-unit : goal.returns-clause-unit
returns-clause-unit c =
    rw (← c.self.view_is) (unit-named c.self.inside.schema c.self.inside.cube.tree.now c.self.inside.index
    c.self.invariant.indexed)
