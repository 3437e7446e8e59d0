use Rattle.std.proofs.Common.{◌≡◌, ◌∙◌, ℕ, None, Some, ap, ap₂, length, subst, sym}
use Rattle.std.specs.Prelude.{option_map}
use Rattle.cube_defs.specs.Tree.{Tree}
use Rattle.pinned_view.specs.Past.{with_all_images}
use Rattle.pinned_view.specs.Pins.{IsPin, version_in, was_in}
use Rattle.pinned_view.specs.Versions.{Version, Versions, version_of}
use Rattle.pinned_view.specs.Views.{AreLast, IsRootOf, IsViewOf}
use Rattle.warehouse.specs.Counted.{AreCounted}
use Rattle.pinned_view.proofs.Staying.{find-map, found_one}
use Rattle.pinned_view.proofs.pinned.Pinned.view.Goals as goal

pub returns-in_err-pin-clause-none : goal.returns-in_err-pin-clause-none
returns-in_err-pin-clause-none c =
    let m = c.self.inside in
    let none = subst (λ (v : Versions). version_of v.pins c.args.name.now ≡ None) c.self.view_is
    (find-map m.pins.items c.args.name.now ∙ ap (option_map version_in) (sym c.in_err-pin.ensures)) in
    rw c.from_residual.ensures none

pub images_since-over-requires : goal.images_since-over-requires
images_since-over-requires c =
    let m = c.self.inside in
    let is = found_one (IsPin m.warehouse m.kept.items) c.args.name.now m.pins.items c.in_ok-pin.pin.now
    (sym c.in_ok-pin.ensures) c.self.invariant.0.each in
    is.within

pub over-requires : goal.over-requires
over-requires c =
    let m = c.self.inside in
    let pin = c.in_ok-pin.pin.now in
    let is = found_one (IsPin m.warehouse m.kept.items) c.args.name.now m.pins.items pin
    (sym c.in_ok-pin.ensures) c.self.invariant.0.each in
    let tree : with_all_images c.images_since-over.result.now c.tree.result.now.now ≡ (was_in pin).tree
    = ap₂ with_all_images c.images_since-over.ensures c.tree.ensures.value ∙ is.tree in
    subst (λ w. IsRootOf w (with_all_images c.images_since-over.result.now c.tree.result.now.now) pin.root)
    (sym c.tree.ensures.width)
    (subst (λ (t : Tree ℕ). IsRootOf (length m.warehouse.state.schema.dims) t pin.root) (sym tree) is.root)

pub returns-clause-some : goal.returns-clause-some
returns-clause-some c =
    let m = c.self.inside in
    let pin = c.in_ok-pin.pin.now in
    let is = found_one (IsPin m.warehouse m.kept.items) c.args.name.now m.pins.items pin
    (sym c.in_ok-pin.ensures) c.self.invariant.0.each in
    subst (λ (v : Versions). (x : Version) × (version_of v.pins c.args.name.now ≡ Some x)
    × IsViewOf v.now.state x c.over.result) c.self.view_is (
      version_in pin,
      find-map m.pins.items c.args.name.now ∙ ap (option_map version_in) (sym c.in_ok-pin.ensures),
      record {
        width = c.over.ensures.width ∙ c.tree.ensures.width;
        tree = c.over.ensures.tree ∙ ap₂ with_all_images c.images_since-over.ensures c.tree.ensures.value ∙ is.tree;
        stats = subst (AreCounted (was_in pin).state.rows) (sym c.over.ensures.stats) is.stats;
        has = is.has;
      },
    )

-- the lists since the pin are the last of those that are stored
pub returns-clause-lists : goal.returns-clause-lists
returns-clause-lists c =
    let m = c.self.inside in
    let pin = c.in_ok-pin.pin.now in
    let is = found_one (IsPin m.warehouse m.kept.items) c.args.name.now m.pins.items pin
    (sym c.in_ok-pin.ensures) c.self.invariant.0.each in
    subst (λ (v : Versions). AreLast c.over.result.lists v.stored) c.self.view_is
    (pin.from, is.within, c.over.ensures.lists ∙ c.images_since-over.ensures)
