use Rattle.std.proofs.Common.{◌≤◌, ◌+◌, ◌∙◌, ap, length}
use Rattle.std.proofs.lemmas.Result.{on_ok_weaker}
use Rattle.warehouse.specs.Changing.{contents_of, state_in}
use Rattle.warehouse.specs.Loading.{IsLoad, cost_of_tree}
use Rattle.warehouse.specs.State.{Contents}
use Rattle.warehouse.proofs.Images.{over-kept}
use Rattle.warehouse.proofs.Loads.{load-within}
use Rattle.warehouse.proofs.Trees.{is-held}
use Rattle.warehouse.proofs.store.Warehouse.make_changes.Goals as goal

pub returns-clause-gives : goal.returns-clause-gives
returns-clause-gives g c = rw (← c.self.view_is) c.make_changes.ensures.gives

pub returns-clause-valid : goal.returns-clause-valid
returns-clause-valid g c =
    is-held c.self.inside.schema c.make_changes.new.cube c.make_changes.new.index c.make_changes.ensures.parts

pub returns-clause-images : goal.returns-clause-images
returns-clause-images g c =
    let inside = c.self.inside in
    rw (← c.self.view_is)
    (over-kept c.make_changes.result (contents_of inside.schema c.make_changes.new.cube c.make_changes.new.index)
    (contents_of inside.schema inside.cube inside.index)
    c.make_changes.ensures.images c.make_changes.ensures.same (ap (λ (w : Contents). w.images) c.self.view_is
    ∙ c.requires.images))

pub returns-clause-loaded : goal.returns-clause-loaded
returns-clause-loaded g c =
    let inside = c.self.inside in
    rw (← c.self.view_is)
    (on_ok_weaker c.make_changes.result
    (λ (within : IsLoad c.args.building (state_in inside.schema inside.cube) c.args.batch.changes
    → c.make_changes.new.steps ≤ c.args.steps.now
    + cost_of_tree (length inside.schema.dims) c.make_changes.new.cube.tree.now) load.
    load-within inside.schema c.make_changes.new.cube c.make_changes.new.index c.make_changes.ensures.parts
    c.args.steps.now c.make_changes.new.steps (within load)) c.make_changes.ensures.loaded)
