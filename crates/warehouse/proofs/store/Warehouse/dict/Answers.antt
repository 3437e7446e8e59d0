use Rattle.warehouse.proofs.Trees.{is-held}
use Rattle.warehouse.proofs.store.Warehouse.dict.Goals as goal

pub returns-clause-valid : goal.returns-clause-valid
returns-clause-valid c =
    rw (← c.self.view_is) (is-held c.self.inside.schema c.self.inside.cube c.self.inside.index c.self.invariant)
