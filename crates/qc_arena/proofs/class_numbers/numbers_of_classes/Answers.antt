use Rattle.std.proofs.Common.{◌∙◌, ◌+◌, Option, ap, arith, cond, length, subst, sym, ℕ}
use Rattle.slab.specs.Slab as slots
use Rattle.cube_defs.specs.Rows as defs
use Rattle.qc_arena.specs.Changes.{class_in}
use Rattle.qc_arena.specs.Inside.{join}
use Rattle.qc_arena.specs.Map.{Known}
use Rattle.qc_arena.proofs.ClassNumbers.{AreBelow, all_below, below_next, class_mark-is, class_there, classes_next, classes_within}
use Rattle.qc_arena.proofs.ClassNumbers.{length_next, node_mark-is, nodes_next, nodes_within, none_below}
use Rattle.qc_arena.proofs.SlotMaps.{no_slot}
use Rattle.qc_arena.proofs.class_numbers.numbers_of_classes.Goals as goal

-- the classes of the places
abbrev class_of : slots.Slab (Option Known) → ℕ → Option defs.Agg
class_of s q = class_in (join (slots.get s q))

pub places-init : goal.places-init
places-init g c = record {
  below = subst (AreBelow (class_of c.args.nodes.now) 0) (sym c.in-Ok.ensures.items) (none_below (class_of c.args.nodes.now));
  len = ap length c.in-Ok.ensures.items;
  room = c.in-Ok.ensures.capacity;
  steps = omega arith;
}

pub add_number-requires-clause-small : goal.add_number-requires-clause-small
add_number-requires-clause-small g c = λ e.
    c.requires.small c.places.place
    (class_there (join (slots.get c.args.nodes.now c.places.place)) (sym c.is_class_at-is_class.ensures.value ∙ e))

pub add_number-requires-clause-room : goal.add_number-requires-clause-room
add_number-requires-clause-room g c = λ e.
    let s = c.args.nodes.now in
    let k = c.places.place in
    let one = class_mark-is (slots.get s k)
    ∙ ap (λ b. cond b 1 0) (sym c.is_class_at-is_class.ensures.value ∙ e) in
    omega (
      arith,
      one,
      classes_next s k,
      classes_within s (k + 1),
      c.requires.classes,
      c.places.invariant.len,
      c.places.invariant.room,
    )

pub places-preserved : goal.places-preserved
places-preserved g c =
    let s = c.args.nodes.now in
    let k = c.places.place in
    let b = c.is_class_at-is_class.result in
    let inv = c.places.invariant in
    let class = class_mark-is (slots.get s k) ∙ ap (λ x. cond x 1 0) (sym c.is_class_at-is_class.ensures.value) in
    let longer = length_next c.places.numbers.items c.add_number.new.numbers.items k b c.add_number.ensures.added in
    record {
      below = below_next (class_of s) k c.places.numbers.items inv.below c.add_number.new.numbers.items b
          c.is_class_at-is_class.ensures.value c.add_number.ensures.added;
      len = omega (arith, longer, class, classes_next s k, inv.len);
      room = omega (arith, inv.room, c.add_number.ensures.room);
      steps = omega (arith, c.is_class_at-is_class.ensures.steps, node_mark-is (slots.get s k), nodes_next s k, inv.steps);
    }

pub returns-clause-numbers : goal.returns-clause-numbers
returns-clause-numbers g c =
    let s = c.args.nodes.now in
    all_below (class_of s) c.places.place c.places.numbers.items c.places.invariant.below
    (λ q l. ap (λ (x : Option (Option Known)). class_in (join x))
    (no_slot s.slots q (omega (arith, l, c.places-test.false, c.capacity-place-end.ensures.slots))))

pub returns-clause-steps : goal.returns-clause-steps
returns-clause-steps g c =
    omega (arith, c.places.invariant.steps, nodes_within c.args.nodes.now c.places.place)
