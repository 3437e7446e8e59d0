use Rattle.std.proofs.Common.{Err, Ok, ap, arith, map, refl, subst, sym, ◌∙◌, ◌≡◌}
use Rattle.std.specs.Prelude.{IfSome}
use Rattle.warehouse.proofs.CallerLemmas.{taken-of, tree-after}
use Rattle.warehouse.specs.Batch.{Apply, result}
use Rattle.warehouse.specs.InPlace.{LeavesOtherRecords, LeavesNumbers}
use Rattle.warehouse.specs.State.{Contents, State}
use Rattle.warehouse.specs.Stored.{applied_in, refusal_in}
use Rattle.pinned_view.specs.Pins.{ArePins, version_in}
use Rattle.pinned_view.specs.Stored.{StoresNoOtherNodes}
use Rattle.pinned_view.specs.Versions.{Versions}
use Rattle.pinned_view.proofs.Staying.{after_change, pins_settled, versions_kept}
use Rattle.pinned_view.proofs.StoredFor.{few_lists, same_contents, shows_same, stores_touched}
use Rattle.pinned_view.proofs.pinned.Pinned.apply.Given as Given
use Rattle.pinned_view.proofs.pinned.Pinned.apply.Goals as goal

pub invariant_of-self : goal.invariant_of-self
invariant_of-self g c =
    let m = c.self.inside in (
      pins_settled c.settle.ensures.keeps c.self.invariant.0,
      omega (arith, c.settle.ensures.capacity, c.self.invariant.1),
    )

-- the images are none before and after a file that is refused
same_held : (g : Given.Over) (c : goal.In-Err-apply g) → c.apply.new.self ≡ c.self.inside.warehouse
same_held g c =
    let said = c.in-Err-apply.ensures in
    same_contents c.self.inside.warehouse c.apply.new.self said.state said.tree said.index said.no_images
    c.self.invariant.0.plain

pub invariant_of-self-in-Err-apply : goal.invariant_of-self-in-Err-apply
invariant_of-self-in-Err-apply g c =
    let m = c.self.inside in (
      subst (λ (n : Contents). ArePins n c.settle.new.kept.items c.settle.new.pins.items) (sym (same_held g c))
          (pins_settled c.settle.ensures.keeps c.self.invariant.0),
      omega (arith, c.settle.ensures.capacity, c.self.invariant.1),
    )

pub invariant_of-self-in-Ok-apply : goal.invariant_of-self-in-Ok-apply
invariant_of-self-in-Ok-apply g c =
    let m = c.self.inside in
    let was = m.warehouse.state in
    let now = c.apply.new.self.state in
    let file = c.args.bytes.now in
    let applied = applied_in now c.in-Ok-apply.applied in (
      after_change m.warehouse c.apply.new.self c.keep_images.new.warehouse c.settle.new.kept.items
          c.keep_images.new.kept.items c.settle.new.pins.items c.apply.ensures.images c.keep_images.ensures.rest
          c.keep_images.ensures.kept
          (ap (λ (s : State). s.schema) (taken-of was Apply file applied c.in-Ok-apply.ensures.gives).1)
          (λ rows tree has. tree-after was now rows tree Apply file applied has c.in-Ok-apply.ensures.gives refl
          c.apply.ensures.valid.state)
          (pins_settled c.in-Ok.ensures.keeps c.self.invariant.0),
      omega (arith, c.settle.ensures.capacity, c.self.invariant.1),
    )

-- the images apart, the warehouse is what the file left
pub returns-in-Ok-apply-clause-numbers : goal.returns-in-Ok-apply-clause-numbers
returns-in-Ok-apply-clause-numbers g c =
    let m = c.self.inside in
    subst (λ (v : Versions). LeavesNumbers v.now c.args.bytes.now c.keep_images.new.warehouse) c.self.view_is
    (subst (LeavesNumbers m.warehouse c.args.bytes.now) (sym c.keep_images.ensures.rest) c.in-Ok-apply.ensures.numbers)

pub returns-in-Ok-apply-clause-apart : goal.returns-in-Ok-apply-clause-apart
returns-in-Ok-apply-clause-apart g c =
    let m = c.self.inside in
    subst (λ (v : Versions). LeavesOtherRecords v.now c.args.bytes.now c.keep_images.new.warehouse) c.self.view_is
    (subst (LeavesOtherRecords m.warehouse c.args.bytes.now)
    (sym c.keep_images.ensures.rest) c.in-Ok-apply.ensures.apart)

pub returns-in-Err-clause-pins : goal.returns-in-Err-clause-pins
returns-in-Err-clause-pins g c =
    versions_kept c.settle.ensures.keeps
    ∙ ap (λ (v : Versions). v.pins) c.self.view_is

pub returns-in-Err-clause-err : goal.returns-in-Err-clause-err
returns-in-Err-clause-err g c =
    let m = c.self.inside in
    shows_same m.warehouse m.warehouse m.kept.items c.settle.new.kept.items m.pins.items c.settle.new.pins.items
    c.args.self.now refl (versions_kept c.settle.ensures.keeps) c.self.view_is

pub returns-in-Err-apply-clause-gives : goal.returns-in-Err-apply-clause-gives
returns-in-Err-apply-clause-gives g c =
    subst (λ (v : Versions). IfSome (refusal_in c.in-Err-apply.refused)
    (λ refusal. result v.now.state Apply c.args.bytes.now ≡ Err refusal)) c.self.view_is
    c.in-Err-apply.ensures.gives

pub returns-in-Err-apply-clause-pins : goal.returns-in-Err-apply-clause-pins
returns-in-Err-apply-clause-pins g c =
    versions_kept c.settle.ensures.keeps
    ∙ ap (λ (v : Versions). v.pins) c.self.view_is

pub returns-in-Err-apply-clause-err : goal.returns-in-Err-apply-clause-err
returns-in-Err-apply-clause-err g c =
    let m = c.self.inside in
    shows_same m.warehouse c.apply.new.self m.kept.items c.settle.new.kept.items m.pins.items c.settle.new.pins.items
    c.args.self.now (same_held g c) (versions_kept c.settle.ensures.keeps)
    c.self.view_is

pub returns-in-Ok-apply-clause-pins : goal.returns-in-Ok-apply-clause-pins
returns-in-Ok-apply-clause-pins g c =
    versions_kept c.settle.ensures.keeps
    ∙ ap (λ (v : Versions). v.pins) c.self.view_is

pub returns-in-Ok-apply-clause-gives : goal.returns-in-Ok-apply-clause-gives
returns-in-Ok-apply-clause-gives g c =
    let was = c.self.inside.warehouse in
    let file = c.args.bytes.now in
    let applied = c.in-Ok-apply.applied in
    subst (λ (v : Versions). result v.now.state Apply file ≡ Ok (applied_in c.keep_images.new.warehouse.state applied))
    c.self.view_is
    (subst (λ (now : Contents). result was.state Apply file ≡ Ok (applied_in now.state applied))
    (sym c.keep_images.ensures.rest) c.in-Ok-apply.ensures.gives)

pub returns-in-Ok-apply-clause-lists : goal.returns-in-Ok-apply-clause-lists
returns-in-Ok-apply-clause-lists g c =
    let are = pins_settled c.settle.ensures.keeps c.self.invariant.0 in
    few_lists c.keep_images.new.warehouse c.settle.new.kept.items c.keep_images.new.kept.items c.settle.new.pins.items
    c.apply.new.self.images c.keep_images.ensures.kept c.in-Ok.ensures.settled are.first

pub returns-in-Ok-apply-clause-stored : goal.returns-in-Ok-apply-clause-stored
returns-in-Ok-apply-clause-stored g c =
    let m = c.self.inside in
    subst (λ (v : Versions). StoresNoOtherNodes v c.args.bytes.now (record {
      now = c.keep_images.new.warehouse;
      pins = map version_in c.settle.new.pins.items;
      stored = c.keep_images.new.kept.items;
    })) c.self.view_is
    (stores_touched m.warehouse c.apply.new.self c.keep_images.new.warehouse (map version_in m.pins.items) m.kept.items
    c.settle.new.kept.items c.keep_images.new.kept.items c.settle.new.pins.items c.args.bytes.now
    c.settle.ensures.keeps.stores c.keep_images.ensures.kept c.keep_images.ensures.rest c.in-Ok-apply.ensures.touches)
