use Rattle.std.proofs.Common.{List, OnOk, ap, ap₂, map, subst, sym, ◌∙◌, ◌≡◌, rules}
use Rattle.cell_core.specs.Gives.{Gives}
use Rattle.qc_arena.specs.Map.{ImageMap}
use Rattle.warehouse.specs.Batch.{Apply, result}
use Rattle.warehouse.specs.InPlace.{IsWithinCost}
use Rattle.warehouse.specs.State.{Contents, State}
use Rattle.warehouse.specs.Stored.{applied_in, refusal_in}
use Rattle.pinned_view.specs.Pins.{version_in}
use Rattle.pinned_view.specs.Versions.{Versions}
use Rattle.pinned_view.proofs.pinned.Pinned.attempt.Goals as goal

pub returns-in-Err-clause-same : goal.returns-in-Err-clause-same
returns-in-Err-clause-same g c =
    let m = c.self.inside in
    ap (λ (kept : List ImageMap). let v : Versions
    = record { now = m.warehouse; pins = map version_in m.pins.items; stored = kept } in v) c.in-Err.ensures.items
    ∙ c.self.view_is

pub returns : goal.returns
returns g c = record {
  gives = subst (λ (v : Versions). (after : State)
      × Gives refusal_in (applied_in after) c.attempt.result (result v.now.state Apply c.args.bytes.now))
      c.self.view_is c.attempt.ensures.gives;
  steps = subst (λ (v : Versions). OnOk c.attempt.result
      (IsWithinCost v.now.state c.args.bytes.now c.args.steps.now c.attempt.new.steps)) c.self.view_is
      c.attempt.ensures.steps;
  same =
      let was = c.self.inside.warehouse in
      let plain = c.self.invariant.0.plain in
      let same : c.attempt.new.self ≡ was = c.attempt.ensures.same
      ∙ (λ j. let held : Contents = record {
        state = was.state;
        tree = was.tree;
        index = was.index;
        images
            = (sym plain) j;
      } in held) in
      ap₂ (λ (held : Contents) (kept : List ImageMap). let v : Versions
      = record { now = held; pins = map version_in c.self.inside.pins.items; stored = kept } in v) same
      c.in-Ok.ensures.items ∙ c.self.view_is;
  unread = search rules;
}
