use Rattle.std.proofs.Common.{◌≡◌, ◌≤◌, ◌<◌, ◌-◌, ◌∙◌, ℕ, List, Some, ap, arith, length, refl, slice_get, slice_index_or, subst, sym}
use Rattle.std.proofs.lemmas.Option.{slice_get-get_or}
use Rattle.cell_core.specs.declared.cell.NodeNo.{NodeNo}
use Rattle.cube_defs.specs.Cell.{depth}
use Rattle.cube_defs.specs.Tree.{Tree}
use Rattle.qc_arena.specs.Map.{Arena}
use Rattle.qc_arena.specs.RecordReaders.{record_at}
use Rattle.warehouse.specs.ClassMoves.{HaveChildren}
use Rattle.qc_arena.specs.Lowered.{HandsDown}
use Rattle.warehouse.proofs.ChildLists.{arrives, can_narrow, goes_on, lists_children, narrowed, next_is_class, next_shallow}
use Rattle.warehouse.proofs.ChildLists.{next_there, no_more_wide, one_more, sets_out}
use Rattle.warehouse.proofs.ListedClasses.{classes_few}
use Rattle.warehouse.proofs.widening.widen_tree.Goals as goal

-- the item of a place
item_at : (now : List NodeNo) (place : ℕ) (x : NodeNo) → place < length now → x ≡ slice_index_or now place x
    → slice_get now place ≡ Some x
item_at now place x within same = slice_get-get_or now place x within ∙ ap (λ (y : NodeNo). Some y) (sym same)

pub places-init : goal.places-init
places-init g c = record {
  way = sets_out c.args.tree.now.width c.args.tree.now.now c.widen.new.self.now c.args.classes.now.items c.requires.wide
      c.requires.classes c.widen.ensures.nodes;
  rest = c.widen.ensures.value;
  size = let few = no_more_wide c.args.tree.now.now c.widen.new.self.now c.widen.ensures.nodes in omega (arith, few);
  steps = omega arith;
}

pub hand_down-requires-clause-there : goal.hand_down-requires-clause-there
hand_down-requires-clause-there g c =
    let inv = c.places.invariant in
    next_there c.args.tree.now.width c.places.place c.args.tree.now.now c.places.tree.now c.args.classes.now.items
    c.places.classes.items c.index.result.now inv.way
    (item_at c.places.classes.items c.places.place c.index.result.now
    (omega (arith, inv.way.long, c.places-test.true, c.len-place-end.ensures)) c.index.ensures)

pub hand_down-requires-clause-class : goal.hand_down-requires-clause-class
hand_down-requires-clause-class g c =
    let inv = c.places.invariant in
    next_is_class c.args.tree.now.width c.places.place c.args.tree.now.now c.places.tree.now c.args.classes.now.items
    c.places.classes.items c.index.result.now inv.way
    (item_at c.places.classes.items c.places.place c.index.result.now
    (omega (arith, inv.way.long, c.places-test.true, c.len-place-end.ensures)) c.index.ensures)

pub hand_down-requires-clause-shallow : goal.hand_down-requires-clause-shallow
hand_down-requires-clause-shallow g c =
    let inv = c.places.invariant in
    subst (λ n. depth (record_at c.places.tree.now c.index.result.now.0).cell ≤ n) (sym c.dims-dim.ensures.value)
    (next_shallow c.args.tree.now.width c.places.place c.args.tree.now.now c.places.tree.now c.args.classes.now.items
    c.places.classes.items c.index.result.now inv.way
    (item_at c.places.classes.items c.places.place c.index.result.now
    (omega (arith, inv.way.long, c.places-test.true, c.len-place-end.ensures)) c.index.ensures))

pub hand_down-requires-clause-few : goal.hand_down-requires-clause-few
hand_down-requires-clause-few g c =
    let inv = c.places.invariant in
    let few = classes_few c.args.tree.now.now c.args.classes.now.items c.requires.classes in
    omega (
      arith,
      few,
      inv.size,
      c.requires.room,
      c.places-test.true,
      c.len-place-end.ensures,
      ap (λ (a : Arena). a.max) inv.rest,
    )

-- a tree that a refusal left as it was
unmoved : (a b : Arena) → b ≡ record a { now = b.now } → b.now ≡ a.now → b ≡ a
unmoved a b rest same = rest ∙ ap (λ (t : Tree ℕ). let x : Arena = record a { now = t } in x) same

pub narrow_tree-requires-clause-moved : goal.narrow_tree-requires-clause-moved
narrow_tree-requires-clause-moved g c =
    let inv = c.places.invariant in
    let old = c.args.classes.now.items in (
      c.args.tree.now.now,
      old,
      subst (λ (a : Arena). HaveChildren (a.width - 1) c.places.place c.args.tree.now.now a.now old c.places.classes.items)
          (sym (unmoved c.places.tree c.hand_down.new.self c.hand_down.ensures.rest c.in-Err.ensures.err))
          (can_narrow c.args.tree.now c.places.tree c.places.place old c.places.classes.items inv.rest inv.way),
    )

pub returns-in-Err-clause-err : goal.returns-in-Err-clause-err
returns-in-Err-clause-err g c =
    let inv = c.places.invariant in
    let old = c.args.classes.now.items in
    let same : c.hand_down.new.self ≡ c.places.tree
    = unmoved c.places.tree c.hand_down.new.self c.hand_down.ensures.rest c.in-Err.ensures.err in
    let have = subst (λ (a : Arena). HaveChildren (a.width - 1) c.places.place c.args.tree.now.now a.now old
    c.places.classes.items) (sym same)
    (can_narrow c.args.tree.now c.places.tree c.places.place old c.places.classes.items inv.rest inv.way) in
    narrowed c.args.tree.now c.places.tree c.narrow_tree.new.tree inv.rest
    (subst (λ (a : Arena). c.narrow_tree.new.tree
    ≡ (let b : Arena = record a { width = a.width - 1; now = c.narrow_tree.new.tree.now } in b)) same
    c.narrow_tree.ensures.rest)
    (c.narrow_tree.ensures.back c.args.tree.now.now old have)

pub places-preserved : goal.places-preserved
places-preserved g c =
    let inv = c.places.invariant in
    let x = c.index.result.now in
    let at = item_at c.places.classes.items c.places.place x
    (omega (arith, inv.way.long, c.places-test.true, c.len-place-end.ensures)) c.index.ensures in
    let move = subst (λ d. HandsDown d x.0 c.places.tree.now c.hand_down.new.self.now c.in-Ok.child.0)
    c.dims-dim.ensures.value c.in-Ok.ensures.moved in
    let there = next_there c.args.tree.now.width c.places.place c.args.tree.now.now c.places.tree.now
    c.args.classes.now.items c.places.classes.items x inv.way at in
    let longer = one_more c.args.tree.now.width x.0 c.in-Ok.child.0 c.places.tree.now c.hand_down.new.self.now there
    move in
    record {
      way = goes_on c.args.tree.now.width c.places.place c.args.tree.now.now c.places.tree.now c.args.classes.now.items
          c.places.classes.items x inv.way at c.hand_down.new.self.now c.in-Ok.child _ move refl;
      rest = c.hand_down.ensures.rest
          ∙ ap (λ (a : Arena). let b : Arena = record a { now = c.hand_down.new.self.now } in b) inv.rest;
      size = omega (arith, longer, inv.size);
      steps = omega (arith, inv.steps, c.hand_down.ensures.steps);
    }

pub returns-clause-kept : goal.returns-clause-kept
returns-clause-kept g c =
    arrives c.args.tree.now.width c.places.place c.args.tree.now.now c.places.tree.now c.args.classes.now.items
    c.places.classes.items c.places.invariant.way (omega (arith, c.places-test.false, c.len-place-end.ensures))

pub returns-clause-classes : goal.returns-clause-classes
returns-clause-classes g c =
    lists_children c.args.tree.now.width c.places.place c.args.tree.now.now c.places.tree.now c.args.classes.now.items
    c.places.classes.items c.places.invariant.way (omega (arith, c.places-test.false, c.len-place-end.ensures))

pub returns-clause-few : goal.returns-clause-few
returns-clause-few g c =
    let inv = c.places.invariant in
    let few = classes_few c.args.tree.now.now c.args.classes.now.items c.requires.classes in
    omega (arith, few, inv.size, inv.way.within, c.requires.room, ap (λ (a : Arena). a.max) inv.rest)
