use Rattle.std.proofs.Common.{length, subst, ℕ, ◌+◌, ◌∙◌, ◌≡◌, ◌≤◌}
use Rattle.std.specs.Prelude.{OnOk}
use Rattle.std.specs.FinMap as finmap
use Rattle.cell_core.specs.Gives.{Gives}
use Rattle.warehouse.specs.Changing.{contents_of, state_in}
use Rattle.warehouse.specs.State.{AreContents, Contents}
use Rattle.warehouse.specs.Stored.{applied_in}
use Rattle.warehouse.specs.Widening.{KeepsWidened, size_of, steps_of_widening, widen_refusal_in, widen_result}
use Rattle.warehouse.proofs.Images.{err-same}
use Rattle.warehouse.proofs.Sizes.{tree-sized}
use Rattle.warehouse.proofs.Trees.{is-held}
use Rattle.warehouse.proofs.store.Warehouse.widen.Goals as goal

pub returns : goal.returns
returns g c =
    let done = c.widen.result in
    let held = c.args.self.now in
    let before : contents_of c.self.inside.schema c.self.inside.cube c.self.inside.index
    ≡ record held { images = finmap.empty } = c.self.view_is ∙ c.drop_images.ensures.rest in
    let same = c.widen.ensures.same in
    record {
      gives =
          subst (λ (w : Contents). Gives widen_refusal_in (applied_in (state_in c.widen.new.schema c.widen.new.cube)) done
          (widen_result w.state c.args.name.now c.args.value.now)) before c.widen.ensures.gives;
      records = subst (λ (w : Contents). OnOk done
          (KeepsWidened (length w.state.schema.dims) w.tree c.widen.new.cube.tree.now)) before c.widen.ensures.records;
      steps =
          subst (λ (size : ℕ). OnOk done
          (c.widen.new.steps ≤ c.args.steps.now + steps_of_widening (length held.state.schema.dims) size))
          (tree-sized (record held { images = finmap.empty })
          (subst AreContents c.drop_images.ensures.rest c.drop_images.ensures.valid))
          (subst (λ (w : Contents). OnOk done
          (c.widen.new.steps ≤ c.args.steps.now + steps_of_widening (length w.state.schema.dims) (size_of w.tree)))
          before c.widen.ensures.steps);
      valid = is-held c.widen.new.schema c.widen.new.cube c.widen.new.index c.widen.ensures.parts;
      state = err-same done (λ (w : Contents). w.state) _ _ _ before same;
      tree = err-same done (λ (w : Contents). w.tree) _ _ _ before same;
      index = err-same done (λ (w : Contents). w.index) _ _ _ before same;
      no_images = c.widen.ensures.images;
    }
