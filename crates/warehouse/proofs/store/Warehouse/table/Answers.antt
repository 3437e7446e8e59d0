use Rattle.std.proofs.Common.{sym}
use Rattle.base_table.specs.Places.{rows_of}
use Rattle.warehouse.proofs.Decoding.{rows-back}
use Rattle.warehouse.proofs.Trees.{is-held}
use Rattle.warehouse.proofs.store.Warehouse.table.Goals as goal

pub returns-clause-rows : goal.returns-clause-rows
returns-clause-rows c =
    rw (← c.self.view_is) (sym
    (rows-back c.self.inside.cube.dict.lists (rows_of c.self.inside.cube.table) c.self.invariant.stored.known
    c.self.invariant.stored.dictionary.distinct))

pub returns-clause-valid : goal.returns-clause-valid
returns-clause-valid c =
    rw (← c.self.view_is) (is-held c.self.inside.schema c.self.inside.cube c.self.inside.index c.self.invariant)
