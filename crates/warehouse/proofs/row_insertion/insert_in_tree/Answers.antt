use Rattle.std.proofs.Common.{◌≡◌, ◌<◌, ◌≤◌, ◌∙◌, ◌+◌, ℕ, List, ap, arith, length, refl, subst}
use Rattle.std.specs.Ordering.{nat_cmp}
use Rattle.base_table.specs.Places.{rows_of}
use Rattle.cube_defs.specs.Rows.{Row}
use Rattle.cube_defs.specs.Tree.{IsCanonical, nodes}
use Rattle.qc_arena.specs.Map.{Arena}
use Rattle.warehouse.specs.InPlace.{KeepsOtherRecords, TouchesOnly, cost_of_insertions}
use Rattle.warehouse.specs.Steps.{rows_before}
use Rattle.warehouse.proofs.TreeInsertions.{apart-later, apart-more, apart-none, between-all, nodes-before, rows-whole, steps-more}
use Rattle.warehouse.proofs.TreeInsertions.{steps-none}
use Rattle.warehouse.proofs.Touching.{touched-more}
use Rattle.warehouse.proofs.row_insertion.insert_in_tree.Goals as goal

pub returns-in-Err-clause-full : goal.returns-in-Err-clause-full
returns-in-Err-clause-full g c = λ e.
    let t = c.args.table.now in
    let full : c.rows.tree.max < length (nodes nat_cmp (rows_before t (c.rows.place + 1))) = c.in-Err.ensures.full e in
    let max : c.rows.tree.max ≡ c.args.tree.now.max = ap (λ (a : Arena). a.max) c.rows.invariant.frame in
    omega (arith, full, max, nodes-before t (c.rows.place + 1))

pub returns-clause-tree : goal.returns-clause-tree
returns-clause-tree g c =
    let t = c.args.table.now in
    let past : length t.places ≤ c.rows.place = omega (arith, c.rows-test.false, c.places-place-end.ensures.value) in
    subst (λ (rs : List (Row ℕ)). IsCanonical nat_cmp t.measures rs c.rows.tree.now)
    (rows-whole t c.rows.place past) c.rows.invariant.tree.canonical

pub returns-clause-fits : goal.returns-clause-fits
returns-clause-fits g c =
    let t = c.args.table.now in
    let past : length t.places ≤ c.rows.place = omega (arith, c.rows-test.false, c.places-place-end.ensures.value) in
    let max : c.rows.tree.max ≡ c.args.tree.now.max = ap (λ (a : Arena). a.max) c.rows.invariant.frame in
    subst (λ (n : ℕ). length (nodes nat_cmp (rows_of t)) ≤ n) max
    (subst (λ (rs : List (Row ℕ)). length (nodes nat_cmp rs) ≤ c.rows.tree.max)
    (rows-whole t c.rows.place past) c.rows.invariant.tree.fits)

pub rows-init : goal.rows-init
rows-init g c = record {
  first = omega arith;
  tree = c.requires.tree;
  numbers = λ k x h. h;
  apart = apart-none c.args.table.now c.args.first c.args.tree.now.now;
  touches = λ k apart was. was;
  steps = steps-none c.args.table.now c.args.first c.args.steps.now;
  frame = refl;
}

pub rows-preserved : goal.rows-preserved
rows-preserved g c =
    let t = c.args.table.now in
    let inv = c.rows.invariant in
    let lt : c.rows.place < length t.places = omega (arith, c.rows-test.true, c.places-place-end.ensures.value) in
    record {
      first = omega (arith, inv.first);
      tree = c.in-Ok.ensures.tree;
      numbers = λ k x h. c.insert_in_tree_at.ensures.numbers k x (inv.numbers k x h);
      apart = apart-more t c.args.first c.rows.place c.args.tree.now.now c.rows.tree.now
          c.insert_in_tree_at.new.tree.now inv.first lt inv.apart c.insert_in_tree_at.ensures.apart;
      touches = touched-more t c.args.first c.rows.place c.args.tree.now c.rows.tree c.insert_in_tree_at.new.tree
          inv.first lt c.insert_in_tree_at.ensures.numbers inv.touches c.insert_in_tree_at.ensures.touches;
      steps = steps-more t c.args.first c.rows.place c.args.steps.now c.rows.steps c.insert_in_tree_at.new.steps
          inv.first lt inv.steps c.in-Ok.ensures.steps;
      frame = c.insert_in_tree_at.ensures.frame ∙ inv.frame;
    }

pub returns-in-Err-clause-numbers : goal.returns-in-Err-clause-numbers
returns-in-Err-clause-numbers g c = λ k x h. c.insert_in_tree_at.ensures.numbers k x (c.rows.invariant.numbers k x h)

pub returns-in-Err-clause-apart : goal.returns-in-Err-clause-apart
returns-in-Err-clause-apart g c =
    let lt : c.rows.place < length c.args.table.now.places
    = omega (arith, c.rows-test.true, c.places-place-end.ensures.value) in
    apart-later c.args.table.now c.args.first c.rows.place c.args.tree.now.now c.rows.tree.now
    c.insert_in_tree_at.new.tree.now lt c.rows.invariant.apart c.insert_in_tree_at.ensures.apart
    c.rows.invariant.first

pub returns-clause-apart : goal.returns-clause-apart
returns-clause-apart g c =
    let t = c.args.table.now in
    let past : length t.places ≤ c.rows.place = omega (arith, c.rows-test.false, c.places-place-end.ensures.value) in
    subst (λ (rs : List (Row ℕ)). KeepsOtherRecords rs c.args.tree.now.now c.rows.tree.now)
    (between-all t c.args.first c.rows.place past) c.rows.invariant.apart

pub returns-clause-touches : goal.returns-clause-touches
returns-clause-touches g c =
    let t = c.args.table.now in
    let past : length t.places ≤ c.rows.place = omega (arith, c.rows-test.false, c.places-place-end.ensures.value) in
    subst (λ (rs : List (Row ℕ)). TouchesOnly rs c.rows.tree.now c.args.tree.now c.rows.tree)
    (between-all t c.args.first c.rows.place past) c.rows.invariant.touches

pub returns-clause-steps : goal.returns-clause-steps
returns-clause-steps g c =
    let t = c.args.table.now in
    let past : length t.places ≤ c.rows.place = omega (arith, c.rows-test.false, c.places-place-end.ensures.value) in
    subst (λ (rs : List (Row ℕ)). c.rows.steps ≤ c.args.steps.now + cost_of_insertions t.dims
    (rows_before t c.args.first) rs) (between-all t c.args.first c.rows.place past) c.rows.invariant.steps
