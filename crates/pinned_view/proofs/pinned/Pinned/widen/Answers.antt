use Rattle.std.proofs.Common.{Err, IfSome, Ok, ap, arith, length, map, subst, sym, ℕ, List, [], ◌∷◌, ◌∙◌, ◌+◌, ◌≡◌, ◌≤◌}
use Rattle.std.specs.Prelude.{true, vec_len, ◌==◌}
use Rattle.std.proofs.lemmas.Bool.Decides.{nat_tests}
use Rattle.std.proofs.lemmas.List.{length-map}
use Rattle.warehouse.specs.State.{Contents}
use Rattle.warehouse.specs.Stored.{applied_in}
use Rattle.warehouse.specs.Widening as widening
use Rattle.warehouse.specs.Widening.{KeepsWidened, cost_of_widening, widen_result}
use Rattle.pinned_view.specs.Pins.{least_place, version_in}
use Rattle.pinned_view.specs.Versions.{Versions}
use Rattle.pinned_view.specs.declared.pins.Pin.{Pin}
use Rattle.pinned_view.specs.declared.refused.PinnedWiden.TheVariants as refusals
use Rattle.pinned_view.proofs.Staying.{no_pins}
use Rattle.pinned_view.proofs.StoredFor.{same_contents}
use Rattle.pinned_view.proofs.pinned.Pinned.widen.Given as Given
use Rattle.pinned_view.proofs.pinned.Pinned.widen.Goals as goal
use Rattle.pinned_view.proofs.pinned.Pinned.widen.Goals.{in-Ok, in-Err}

-- the answer is never that a version is pinned
never-pinned : (g : Given.Over) (c : goal.Joined-widen g) → c.match-widen.result ≡ Err refusals.Pinned → ⊥
never-pinned g c = λ told.
    elim c.match-widen.branch [
      | in-Ok w ↦ let two : Ok w.in-Ok.applied ≡ Err refusals.Pinned = sym w.result-is ∙ told in cc
      | in-Err w ↦
          let same : Err w.widen_refused.result ≡ Err refusals.Pinned = sym w.result-is ∙ told in
          w.widen_refused.ensures.other (cc)
    ]

none-pinned : (g : Given.Over) (c : goal.Joined-widen g) → length c.self.inside.pins.items ≡ 0
none-pinned g c =
    let empty : (vec_len c.self.inside.pins == 0) ≡ true = sym c.is_empty.ensures ∙ c.if-not-is_empty.false in
    let none : vec_len c.self.inside.pins ≡ 0 = grind (arith, nat_tests) in
    sym c.self.inside.pins.ok.0 ∙ none

-- no list is kept where there are no pins
unread : (kept : ℕ) (pins : List Pin) → length pins ≡ 0 → least_place kept pins ≡ 0 → kept ≡ 0
unread kept [] none first = first
unread kept (pin ∷ pins) none first = absurd (omega (arith, none))

pub invariant_of-self : goal.invariant_of-self
invariant_of-self g c = (
  no_pins c.widen.new.self c.self.inside.kept.items c.self.inside.pins.items (none-pinned g c)
      (unread (length c.self.inside.kept.items) c.self.inside.pins.items (none-pinned g c) c.self.invariant.0.first)
      c.widen.ensures.no_images,
  c.self.invariant.1,
)

pub returns : goal.returns
returns g c = record {
  pinned =
      let none : length c.args.self.now.pins ≡ 0
      = ap (λ (v : Versions). length v.pins) (sym c.self.view_is) ∙ length-map c.self.inside.pins.items version_in
      ∙ none-pinned g c in
      ((λ told. absurd (never-pinned g c told)), (λ some. absurd (omega (arith, none))));
  still = λ told. absurd (never-pinned g c told);
  gives = λ _.
      elim c.match-widen.branch [
        | in-Ok w ↦ rw w.result-is
            (subst (λ (v : Versions). widen_result v.now.state c.args.name.now c.args.value.now
            ≡ Ok (applied_in c.widen.new.self.state w.in-Ok.applied)) c.self.view_is w.in-Ok.ensures.gives)
        | in-Err w ↦ rw (w.result-is, w.widen_refused.ensures.same)
            (subst (λ (v : Versions). IfSome (widening.widen_refusal_in w.in-Err.refused)
            (λ refusal. widen_result v.now.state c.args.name.now c.args.value.now ≡ Err refusal)) c.self.view_is
            w.in-Err.ensures.gives)
      ];
  records = elim c.match-widen.branch [
    | in-Ok w ↦ rw w.result-is
        (subst (λ (v : Versions). KeepsWidened (length v.now.state.schema.dims) v.now.tree c.widen.new.self.tree)
        c.self.view_is w.in-Ok.ensures.records)
    | in-Err w ↦ rw w.result-is tt
  ];
  steps = elim c.match-widen.branch [
    | in-Ok w ↦ rw w.result-is
        (subst (λ (v : Versions). c.widen.new.steps ≤ c.args.steps.now + cost_of_widening v.now.state)
        c.self.view_is w.in-Ok.ensures.steps)
    | in-Err w ↦ rw w.result-is tt
  ];
  valid = c.widen.ensures.valid;
  pins = ap (λ (v : Versions). v.pins) c.self.view_is;
  err = elim c.match-widen.branch [
    | in-Ok w ↦ rw w.result-is tt
    | in-Err w ↦
        let said = w.in-Err.ensures in
        let same = same_contents c.self.inside.warehouse c.widen.new.self said.state said.tree said.index said.no_images
        c.self.invariant.0.plain in
        rw w.result-is (ap (λ (held : Contents). let v : Versions
        = record { now = held; pins = map version_in c.self.inside.pins.items; stored = c.self.inside.kept.items } in v) same
        ∙ c.self.view_is)
  ];
}
