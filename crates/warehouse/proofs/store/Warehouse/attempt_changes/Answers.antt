use Rattle.std.proofs.Common.{ap, subst, sym, ℕ, ◌≡◌, ◌∙◌}
use Rattle.std.specs.FinMap as finmap
use Rattle.cube_defs.specs.Tree.{Tree}
use Rattle.warehouse.specs.Changing.{contents_of}
use Rattle.warehouse.specs.State.{Contents, IsIndexed}
use Rattle.warehouse.proofs.Trees.{is-held}
use Rattle.warehouse.proofs.store.Warehouse.attempt_changes.Goals as goal

pub returns : goal.returns
returns g c =
    let back = c.attempt.ensures.back in
    record {
      gives = rw (← c.self.view_is) c.attempt.ensures.gives;
      steps = rw (← c.self.view_is) c.attempt.ensures.steps;
      same =
          let inside = c.self.inside in
          let none : inside.cube.tree.last ≡ finmap.empty = ap (λ (w : Contents). w.images) c.self.view_is
          ∙ c.requires.images in
          let images = back.images ∙ sym none in
          let same : contents_of inside.schema c.attempt.new.cube inside.index
          ≡ contents_of inside.schema inside.cube inside.index =
          λ j. let held : Contents = record {
            state = back.same_state j;
            tree = back.same_tree j;
            index = inside.index;
            images = images j;
          } in held in
          same ∙ c.self.view_is;
      valid = is-held c.self.inside.schema c.attempt.new.cube c.self.inside.index
          (record {
            stored = back.stored;
            kept = back.kept;
            indexed = subst (λ (t : Tree ℕ). IsIndexed c.self.inside.schema t c.self.inside.index)
                (sym back.same_tree) c.self.invariant.indexed;
          });
    }
