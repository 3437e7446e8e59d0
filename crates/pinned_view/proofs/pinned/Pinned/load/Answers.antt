use Rattle.std.proofs.Common.{Ok, ap, arith, refl, subst, sym, ◌∙◌, ◌≡◌}
use Rattle.warehouse.proofs.CallerLemmas.{taken-of, tree-after}
use Rattle.warehouse.specs.Batch.{Load, result}
use Rattle.warehouse.specs.State.{Contents, State}
use Rattle.warehouse.specs.Stored.{applied_in}
use Rattle.pinned_view.specs.Pins.{ArePins}
use Rattle.pinned_view.specs.Versions.{Versions}
use Rattle.pinned_view.proofs.Staying.{after_change, pins_settled, versions_kept}
use Rattle.pinned_view.proofs.StoredFor.{few_lists, same_contents, shows_same}
use Rattle.pinned_view.proofs.pinned.Pinned.load.Given as Given
use Rattle.pinned_view.proofs.pinned.Pinned.load.Goals as goal

pub invariant_of-self : goal.invariant_of-self
invariant_of-self g c =
    let m = c.self.inside in (
      pins_settled c.settle.ensures.keeps c.self.invariant.0,
      omega (arith, c.settle.ensures.capacity, c.self.invariant.1),
    )

-- the images are none before and after a file that is refused
same_held : (g : Given.Over) (c : goal.In-Err-load g) → c.load.new.self ≡ c.self.inside.warehouse
same_held g c =
    let said = c.in-Err-load.ensures in
    same_contents c.self.inside.warehouse c.load.new.self said.state said.tree said.index said.no_images
    c.self.invariant.0.plain

pub invariant_of-self-in-Err-load : goal.invariant_of-self-in-Err-load
invariant_of-self-in-Err-load g c =
    let m = c.self.inside in (
      subst (λ (n : Contents). ArePins n c.settle.new.kept.items c.settle.new.pins.items) (sym (same_held g c))
          (pins_settled c.settle.ensures.keeps c.self.invariant.0),
      omega (arith, c.settle.ensures.capacity, c.self.invariant.1),
    )

pub invariant_of-self-in-Ok-load : goal.invariant_of-self-in-Ok-load
invariant_of-self-in-Ok-load g c =
    let m = c.self.inside in
    let was = m.warehouse.state in
    let now = c.load.new.self.state in
    let file = c.args.bytes.now in
    let applied = applied_in now c.in-Ok-load.applied in (
      after_change m.warehouse c.load.new.self c.keep_images.new.warehouse c.settle.new.kept.items
          c.keep_images.new.kept.items c.settle.new.pins.items c.load.ensures.images c.keep_images.ensures.rest
          c.keep_images.ensures.kept
          (ap (λ (s : State). s.schema) (taken-of was Load file applied c.in-Ok-load.ensures.gives).1)
          (λ rows tree has. tree-after was now rows tree Load file applied has c.in-Ok-load.ensures.gives refl
          c.load.ensures.valid.state)
          (pins_settled c.in-Ok.ensures.keeps c.self.invariant.0),
      omega (arith, c.settle.ensures.capacity, c.self.invariant.1),
    )

pub returns-in-Err-clause-pins : goal.returns-in-Err-clause-pins
returns-in-Err-clause-pins g c =
    versions_kept c.settle.ensures.keeps
    ∙ ap (λ (v : Versions). v.pins) c.self.view_is

pub returns-in-Err-clause-err : goal.returns-in-Err-clause-err
returns-in-Err-clause-err g c =
    let m = c.self.inside in
    shows_same m.warehouse m.warehouse m.kept.items c.settle.new.kept.items m.pins.items c.settle.new.pins.items
    c.args.self.now refl (versions_kept c.settle.ensures.keeps) c.self.view_is

pub returns-in-Err-load-clause-pins : goal.returns-in-Err-load-clause-pins
returns-in-Err-load-clause-pins g c =
    versions_kept c.settle.ensures.keeps
    ∙ ap (λ (v : Versions). v.pins) c.self.view_is

pub returns-in-Err-load-clause-err : goal.returns-in-Err-load-clause-err
returns-in-Err-load-clause-err g c =
    let m = c.self.inside in
    shows_same m.warehouse c.load.new.self m.kept.items c.settle.new.kept.items m.pins.items c.settle.new.pins.items
    c.args.self.now (same_held g c) (versions_kept c.settle.ensures.keeps)
    c.self.view_is

pub returns-in-Ok-load-clause-pins : goal.returns-in-Ok-load-clause-pins
returns-in-Ok-load-clause-pins g c =
    versions_kept c.settle.ensures.keeps
    ∙ ap (λ (v : Versions). v.pins) c.self.view_is

pub returns-in-Ok-load-clause-gives : goal.returns-in-Ok-load-clause-gives
returns-in-Ok-load-clause-gives g c =
    let was = c.self.inside.warehouse in
    let file = c.args.bytes.now in
    let applied = c.in-Ok-load.applied in
    subst (λ (v : Versions). result v.now.state Load file ≡ Ok (applied_in c.keep_images.new.warehouse.state applied))
    c.self.view_is
    (subst (λ (now : Contents). result was.state Load file ≡ Ok (applied_in now.state applied))
    (sym c.keep_images.ensures.rest) c.in-Ok-load.ensures.gives)

pub returns-in-Ok-load-clause-lists : goal.returns-in-Ok-load-clause-lists
returns-in-Ok-load-clause-lists g c =
    let are = pins_settled c.settle.ensures.keeps c.self.invariant.0 in
    few_lists c.keep_images.new.warehouse c.settle.new.kept.items c.keep_images.new.kept.items c.settle.new.pins.items
    c.load.new.self.images c.keep_images.ensures.kept c.in-Ok.ensures.settled are.first
