use Rattle.std.proofs.Common.{◌≡◌, ◌<◌, ◌+◌, ◌-◌, ◌∙◌, ℕ, List, Some, ap, arith, refl, slice_get, slice_index_or, subst, sym}
use Rattle.std.proofs.lemmas.Option.{slice_get-get_or}
use Rattle.std.specs.FinMap as finmap
use Rattle.std.specs.Option.{option_map}
use Rattle.cell_core.specs.declared.cell.NodeNo.{NodeNo}
use Rattle.cube_defs.specs.Tree.{Tree}
use Rattle.qc_arena.specs.Map.{Arena}
use Rattle.qc_arena.specs.Resized.{resized}
use Rattle.warehouse.specs.ClassMoves.{HaveChildren}
use Rattle.qc_arena.specs.Lowered.{TakesBack}
use Rattle.warehouse.proofs.ChildLists.{goes_back, is_child, last_free, returns_to}
use Rattle.warehouse.proofs.widening.narrow_tree.Goals as goal

-- what is known of the place before
before : (dims place : ℕ) (tree wide : Tree ℕ) (old now : List NodeNo) → 0 < place
    → HaveChildren dims place tree wide old now → HaveChildren dims (place - 1 + 1) tree wide old now
before dims place tree wide old now some was =
    let same : place ≡ place - 1 + 1 = omega (arith, some) in
    subst (λ n. HaveChildren dims n tree wide old now) same was

-- the item of the place before
item_at : (dims place : ℕ) (tree wide : Tree ℕ) (old now : List NodeNo) (c : NodeNo) → 0 < place
    → HaveChildren dims place tree wide old now → c ≡ slice_index_or now (place - 1) c
    → slice_get now (place - 1) ≡ Some c
item_at dims place tree wide old now c some was same =
    slice_get-get_or now (place - 1) c (omega (arith, some, was.within, was.long)) ∙ ap (λ (y : NodeNo). Some y) (sym same)

pub take_back-requires-clause-child : goal.take_back-requires-clause-child
take_back-requires-clause-child g c =
    let had = c.requires.moved in
    let was = c.places.invariant.way had.0 had.1 had.2 in
    let now = c.places.classes.items in
    is_child (c.args.tree.now.width - 1) (c.places.place - 1) had.0 c.places.tree.now had.1 now c.index.result.now
    (before _ _ _ _ _ _ c.places-test.true was)
    (item_at _ c.places.place _ _ _ now c.index.result.now c.places-test.true was c.index.ensures)

pub places-preserved : goal.places-preserved
places-preserved g c = record {
  way = λ first old h.
      let was = c.places.invariant.way first old h in
      let now = c.places.classes.items in
      goes_back (c.args.tree.now.width - 1) (c.places.place - 1) first c.places.tree.now old now c.index.result.now
      (before _ _ _ _ _ _ c.places-test.true was)
      (item_at _ c.places.place _ _ _ now c.index.result.now c.places-test.true was c.index.ensures)
      c.take_back.new.self.now c.take_back.result _ c.take_back.ensures.parent
      (subst (λ d. TakesBack d c.take_back.result.0 c.places.tree.now c.take_back.new.self.now c.index.result.now.0)
      (ap (λ n. n - 1) c.dims-dim.ensures.value) c.take_back.ensures.back) refl;
  rest = c.take_back.ensures.rest
      ∙ ap (λ (a : Arena). let b : Arena = record a { now = c.take_back.new.self.now } in b) c.places.invariant.rest;
  steps = omega (arith, c.places.invariant.steps, c.take_back.ensures.steps, c.places-test.true);
}

pub narrow-requires-clause-free : goal.narrow-requires-clause-free
narrow-requires-clause-free g c = λ q n at.
    let had = c.requires.moved in
    let none : c.places.place ≡ 0 = omega (arith, c.places-test.false) in
    let was = c.places.invariant.way had.0 had.1 had.2 in
    let free = last_free (c.args.tree.now.width - 1) had.0 c.places.tree.now had.1 c.places.classes.items
    (subst (λ n. HaveChildren (c.args.tree.now.width - 1) n had.0 c.places.tree.now had.1 c.places.classes.items) none
    was) q n at in
    omega (arith, free, c.requires.some, ap (λ (a : Arena). a.width) c.places.invariant.rest)

pub returns-clause-back : goal.returns-clause-back
returns-clause-back g c = λ first old h.
    let none : c.places.place ≡ 0 = omega (arith, c.places-test.false) in
    let width : c.narrow.new.self.width ≡ c.args.tree.now.width - 1
    = omega (arith, c.narrow.ensures.width, ap (λ (a : Arena). a.width) c.places.invariant.rest) in
    returns_to (c.args.tree.now.width - 1) first c.places.tree.now old c.places.classes.items
    (subst (λ n. HaveChildren (c.args.tree.now.width - 1) n first c.places.tree.now old c.places.classes.items) none
    (c.places.invariant.way first old h)) c.narrow.new.self.now
    (λ q. c.narrow.ensures.nodes q ∙ ap (λ n. option_map (resized n) (finmap.get c.places.tree.now q)) width)
