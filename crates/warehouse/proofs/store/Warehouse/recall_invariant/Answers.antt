use Rattle.warehouse.proofs.Trees.{is-held}
use Rattle.warehouse.proofs.store.Warehouse.recall_invariant.Goals as goal

pub returns : goal.returns
returns c = rw (← c.self.view_is) (is-held c.self.inside.schema c.self.inside.cube c.self.inside.index c.self.invariant)
