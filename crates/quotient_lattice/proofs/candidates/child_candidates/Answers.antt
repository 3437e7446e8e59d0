use Rattle.std.proofs.Common.{◌≡◌, ◌+◌, ◌*◌, ◌≤◌, suc, Some, length, sym, ap, subst, ◌∙◌, arith}
use Rattle.std.specs.Prelude.{slice_get}
use Rattle.cube_defs.specs.Cell.{cell_prefix, depth}
use Rattle.cube_laws.specs.Parts.{value_count}
use Rattle.cube_laws.proofs.CallerLemmas.{depth-le}
use Rattle.lower_bounds.proofs.CallerLemmas.{few_values}
use Rattle.qc_arena.specs.RecordReaders.{number, record_at}
use Rattle.tree_laws.proofs.CallerLemmas.{label_none, label_some, cell_prefix-beyond, cell_prefix-cell_prefix, get-cell_prefix, there}
use Rattle.tree_search.proofs.CallerLemmas.{has_parent, last_within, cell_of}
use Rattle.quotient_lattice.specs.Candidates.{edges_on_way, lead_count}
use Rattle.quotient_lattice.proofs.Counted.{steps_end, steps_up, times_more}
use Rattle.quotient_lattice.proofs.OnWay.{IsUp, count_value, goes_up, own_edges, root_edges, upper_wide}
use Rattle.quotient_lattice.proofs.candidates.child_candidates.Given as given
use Rattle.quotient_lattice.proofs.candidates.child_candidates.Goals as goal
use Rattle.quotient_lattice.proofs.candidates.child_candidates.Goals.{After-unwrap-at}

-- one node up
went_up : (g : given.Over) (c : After-unwrap-at g)
    → IsUp _ _ c.dims.ensures.rows.0 c.dims.ensures.rows.1 c.up.at.0 c.up.invariant.at c.in-Some.dim c.in-Some._code
    (sym c.in-Some.ensures.value) c.unwrap-at.result.0
went_up g c = goes_up _ _ c.dims.ensures.rows.0 c.dims.ensures.rows.1 c.up.at.0 c.up.invariant.at c.in-Some.dim c.in-Some._code
    (sym c.in-Some.ensures.value) number c.parent.result c.unwrap-at.result c.parent.ensures.value c.unwrap-at.ensures

-- what is left of the steps there
left : (g : given.Over) (c : After-unwrap-at g) →
    c.up.steps + (2 * length c.args.u.now + 3) * (length (record_at c.args.tree.now.tree c.up.at.0).edges
    + edges_on_way c.args.tree.now.tree c.unwrap-at.result.0)
    + 3 * suc (value_count (record_at c.args.tree.now.tree c.unwrap-at.result.0).cell)
    ≤ c.args.steps.now + (2 * length c.args.u.now + 3) * (edges_on_way c.args.tree.now.tree c.args.node.0
    + length (record_at c.args.tree.now.tree c.up.at.0).edges) + 3 * value_count c.args.u.now + 1
left g c =
    let tree = c.args.tree.now.tree in
    let u = c.args.u.now in
    let at = c.up.at.0 in
    let on = c.unwrap-at.result.0 in
    let up = went_up g c in
    let before = subst (λ v. c.up.steps + (2 * length u + 3) * edges_on_way tree at + 3 * v ≤ c.args.steps.now
    + (2 * length u + 3) * (edges_on_way tree c.args.node.0 + length (record_at tree at).edges)
    + 3 * value_count u + 1) up.less
    c.up.invariant.steps in
    subst (λ e. c.up.steps + (2 * length u + 3) * e + 3 * suc (value_count (record_at tree on).cell) ≤ c.args.steps.now
    + (2 * length u + 3) * (edges_on_way tree c.args.node.0 + length (record_at tree at).edges) + 3 * value_count u
    + 1) up.edges before

pub push_labels-requires-clause-dims : goal.push_labels-requires-clause-dims
push_labels-requires-clause-dims g c = upper_wide _ _ c.args.node.0 c.args.u.now c.requires.upper c.dims.ensures.rows

pub push_labels-requires-clause-front : goal.push_labels-requires-clause-front
push_labels-requires-clause-front g c =
    let u = c.args.u.now in
    let wide = upper_wide _ _ c.args.node.0 u c.requires.upper c.dims.ensures.rows in
    cell_of _ c.args.node.0 u c.requires.upper
    ∙ sym (cell_prefix-beyond c.dims.result u (omega (arith, depth-le u, wide, c.dims.ensures.value)))

pub returns-in-Err-clause-steps : goal.returns-in-Err-clause-steps
returns-in-Err-clause-steps g c =
    let n = c.args.tree.now.width in
    let tree = c.args.tree.now.tree in
    let wide = upper_wide _ _ c.args.node.0 c.args.u.now c.requires.upper c.dims.ensures.rows in
    let s = subst (λ m. c.push_labels.new.steps ≤ c.args.steps.now
    + (1 + length (record_at tree c.args.node.0).edges * (2 * m + 3))) wide c.in-Err.ensures.steps in
    omega (
      arith,
      s,
      times_more n (length (record_at tree c.args.node.0).edges) (edges_on_way tree c.args.node.0)
          (own_edges tree c.args.node.0),
    )

pub up-init : goal.up-init
up-init g c =
    let n = c.args.tree.now.width in
    let tree = c.args.tree.now.tree in
    let u = c.args.u.now in
    let own = cell_of tree c.args.node.0 u c.requires.upper in
    record {
      same = c.in-Ok.ensures.same;
      at = there tree c.args.node.0 u c.requires.upper;
      front = own ∙ sym (cell_prefix-beyond (depth (record_at tree c.args.node.0).cell) u
          (omega (arith, ap depth own)));
      led = λ source h. c.in-Ok.ensures.led source h;
      there = c.in-Ok.ensures.there;
      few = omega (arith, c.in-Ok.ensures.few, ap length c.new-led.ensures.items);
      steps = omega (arith, c.in-Ok.ensures.steps, ap value_count own);
    }

pub unwrap-at-requires : goal.unwrap-at-requires
unwrap-at-requires g c =
    has_parent _ _ c.dims.ensures.rows.0 c.dims.ensures.rows.1 c.up.at.0 c.up.invariant.at c.in-Some.dim c.in-Some._code
    (sym c.in-Some.ensures.value) number c.parent.result c.parent.ensures.value

pub push_labels-requires-in-Some-clause-dims : goal.push_labels-requires-in-Some-clause-dims
push_labels-requires-in-Some-clause-dims g c = ap length c.up.invariant.same
    ∙ upper_wide _ _ c.args.node.0 c.args.u.now c.requires.upper c.dims.ensures.rows

pub push_labels-requires-in-Some-clause-at : goal.push_labels-requires-in-Some-clause-at
push_labels-requires-in-Some-clause-at g c =
    (went_up g (goal.at.push_labels-requires-in-Some-clause-at g c).After-unwrap-at).there

pub push_labels-requires-in-Some-clause-end : goal.push_labels-requires-in-Some-clause-end
push_labels-requires-in-Some-clause-end g c =
    let l = last_within _ _ c.dims.ensures.rows.0 c.dims.ensures.rows.1 c.up.at.0 c.up.invariant.at c.in-Some.dim
    c.in-Some._code (sym c.in-Some.ensures.value) in
    omega arith

pub push_labels-requires-in-Some-clause-front : goal.push_labels-requires-in-Some-clause-front
push_labels-requires-in-Some-clause-front g c =
    let tree = c.args.tree.now.tree in
    let up = went_up g (goal.at.push_labels-requires-in-Some-clause-front g c).After-unwrap-at in
    let deep = (label_some (record_at tree c.up.at.0).cell c.in-Some.dim c.in-Some._code
    (sym c.in-Some.ensures.value)).0 in
    up.front ∙ ap (cell_prefix c.in-Some.dim) c.up.invariant.front
    ∙ cell_prefix-cell_prefix c.in-Some.dim (depth (record_at tree c.up.at.0).cell) c.args.u.now (omega (arith, deep))
    ∙ ap (cell_prefix c.in-Some.dim) (sym c.up.invariant.same)

pub push_labels-requires-in-Some-clause-led : goal.push_labels-requires-in-Some-clause-led
push_labels-requires-in-Some-clause-led g c = λ source h k t.
    let n = c.args.tree.now.width in
    let tree = c.args.tree.now.tree in
    let u = c.args.u.now in
    let d = (record_at tree k).cell in
    let label = label_some (record_at tree c.up.at.0).cell c.in-Some.dim c.in-Some._code
    (sym c.in-Some.ensures.value) in
    let within = last_within _ _ c.dims.ensures.rows.0 c.dims.ensures.rows.1 c.up.at.0 c.up.invariant.at c.in-Some.dim
    c.in-Some._code (sym c.in-Some.ensures.value) in
    let value : slice_get u c.in-Some.dim ≡ Some (Some c.in-Some._code)
    = sym (get-cell_prefix c.in-Some.dim (depth (record_at tree c.up.at.0).cell) u (omega (arith, label.0)))
    ∙ ap (λ p. slice_get p c.in-Some.dim) (sym c.up.invariant.front) ∙ label.1 in
    c.up.invariant.led source h k t
    ∙ ap (λ a. lead_count source u d a n) label.0
    ∙ count_value source u d c.in-Some.dim c.in-Some._code n value within
    ∙ ap (λ z. lead_count source z d c.in-Some.dim n) (sym c.up.invariant.same)

pub up-smaller : goal.up-smaller
up-smaller g c =
    let up = went_up g (goal.at.up-smaller g c).After-unwrap-at in
    let s = up.shallower in
    omega arith

pub up-preserved : goal.up-preserved
up-preserved g c =
    let tree = c.args.tree.now.tree in
    let n = c.args.tree.now.width in
    let u = c.args.u.now in
    let at = c.up.at.0 in
    let on = c.unwrap-at.result.0 in
    let up = went_up g (goal.at.up-preserved g c).After-unwrap-at in
    let deep = (label_some (record_at tree at).cell c.in-Some.dim c.in-Some._code (sym c.in-Some.ensures.value)).0 in
    let front = up.front ∙ ap (cell_prefix c.in-Some.dim) c.up.invariant.front
    ∙ cell_prefix-cell_prefix c.in-Some.dim (depth (record_at tree at).cell) u (omega (arith, deep)) in
    let again = sym (cell_prefix-beyond (depth (record_at tree on).cell) (record_at tree on).cell (omega arith)) in
    let less = up.shallower in
    let pushed = subst (λ z. c.push_labels-in-Some.new.steps ≤ c.parent.new.steps
    + (1 + length (record_at tree on).edges * (2 * length z + 3))) c.up.invariant.same
    c.in-Ok-push_labels.ensures.steps in
    record {
      same = c.in-Ok-push_labels.ensures.same ∙ c.up.invariant.same;
      at = up.there;
      front = again ∙ ap (cell_prefix (depth (record_at tree on).cell)) front
          ∙ cell_prefix-cell_prefix (depth (record_at tree on).cell) c.in-Some.dim u (omega (arith, less, deep));
      led = λ source h k t. c.in-Ok-push_labels.ensures.led source h k t
          ∙ ap (λ z. lead_count source z (record_at tree k).cell (depth (record_at tree on).cell) n)
          c.up.invariant.same;
      there = c.in-Ok-push_labels.ensures.there;
      few = omega (arith, c.in-Ok-push_labels.ensures.few, c.up.invariant.few, up.edges);
      steps = steps_up (length u) c.up.steps c.args.steps.now (length (record_at tree at).edges) (edges_on_way tree on)
          (edges_on_way tree c.args.node.0) (value_count u) c.push_labels-in-Some.new.steps
          (length (record_at tree on).edges) (value_count (record_at tree on).cell)
          (left g (goal.at.up-preserved g c).After-unwrap-at)
          (omega (arith, pushed, c.end_of.ensures.steps, c.parent.ensures.steps));
    }

pub returns-in-Err-push_labels-clause-steps : goal.returns-in-Err-push_labels-clause-steps
returns-in-Err-push_labels-clause-steps g c =
    let tree = c.args.tree.now.tree in
    let n = c.args.tree.now.width in
    let u = c.args.u.now in
    let at = c.up.at.0 in
    let on = c.unwrap-at.result.0 in
    let pushed = subst (λ z. c.push_labels-in-Some.new.steps ≤ c.parent.new.steps
    + (1 + length (record_at tree on).edges * (2 * length z + 3))) c.up.invariant.same
    c.in-Err-push_labels.ensures.steps in
    let more = steps_up (length u) c.up.steps c.args.steps.now (length (record_at tree at).edges) (edges_on_way tree on)
    (edges_on_way tree c.args.node.0) (value_count u) c.push_labels-in-Some.new.steps
    (length (record_at tree on).edges) (value_count (record_at tree on).cell)
    (left g (goal.at.returns-in-Err-push_labels-clause-steps g c).After-unwrap-at)
    (omega (arith, pushed, c.end_of.ensures.steps, c.parent.ensures.steps)) in
    let end = steps_end (length u) n c.args.steps.now (edges_on_way tree on) (edges_on_way tree c.args.node.0)
    (value_count u) c.push_labels-in-Some.new.steps (length (record_at tree on).edges)
    (value_count (record_at tree on).cell)
    (upper_wide _ _ c.args.node.0 u c.requires.upper c.dims.ensures.rows) (few_values u) (own_edges tree on) more in
    omega (arith, end)

pub returns-clause-led : goal.returns-clause-led
returns-clause-led g c = λ source h k t.
    let tree = c.args.tree.now.tree in
    c.up.invariant.led source h k t
    ∙ ap (λ a. lead_count source c.args.u.now (record_at tree k).cell a (c.args.tree.now.width))
    (label_none (record_at tree c.up.at.0).cell (sym c.in_default.ensures.value))

pub returns-clause-few : goal.returns-clause-few
returns-clause-few g c =
    omega (
      arith,
      c.up.invariant.few,
      root_edges c.args.tree.now.tree c.up.at.0 (sym c.in_default.ensures.value),
    )

pub returns-clause-steps : goal.returns-clause-steps
returns-clause-steps g c =
    let tree = c.args.tree.now.tree in
    let u = c.args.u.now in
    let end = steps_end (length u) (c.args.tree.now.width) c.args.steps.now (edges_on_way tree c.up.at.0)
    (edges_on_way tree c.args.node.0) (value_count u) c.up.steps (length (record_at tree c.up.at.0).edges)
    (value_count (record_at tree c.up.at.0).cell)
    (upper_wide _ _ c.args.node.0 u c.requires.upper c.dims.ensures.rows) (few_values u)
    (own_edges tree c.up.at.0) c.up.invariant.steps in
    omega (arith, end, c.end_of.ensures.steps)
