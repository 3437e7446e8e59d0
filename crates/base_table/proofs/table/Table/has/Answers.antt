use Rattle.std.proofs.Common.{◌∙◌, ap, sym, ℕ, List}
use Rattle.cube_defs.specs.Rows.{Row}
use Rattle.base_table.proofs.Holding.{rows-view}
use Rattle.base_table.proofs.table.Table.has.Goals as goal
use Rattle.base_table.specs.Places.{has_id}
use Rattle.base_table.proofs.Placed.{found_has}

pub find-requires : goal.find-requires
find-requires c = record { last = c.self.invariant.is_now.last; places = c.self.invariant.places }

pub returns-in-Some : goal.returns-in-Some
returns-in-Some c =
    let m = c.self.inside in
    sym (found_has m.here.items m.store.rows c.args.id c.in-Some.field-0 c.self.invariant.places
    c.in-Some.ensures.found)
    ∙ ap (λ (l : List (Row ℕ)). has_id l c.args.id)
    (rows-view c.self.invariant c.args.self.now c.self.view_is)

pub returns-in-None : goal.returns-in-None
returns-in-None c =
    sym c.in-None.ensures.none
    ∙ ap (λ (l : List (Row ℕ)). has_id l c.args.id)
    (rows-view c.self.invariant c.args.self.now c.self.view_is)
