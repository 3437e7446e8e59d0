use Rattle.std.proofs.Common.{◌≡◌, ℕ, ◌+◌, ◌*◌, ◌^◌, ◌≤◌, ◌∙◌, arith, length}
use Rattle.cube_laws.specs.Parts.{value_count}
use Rattle.lower_bounds.proofs.Counted.{few_values, steps_in_all}
use Rattle.lower_bounds.proofs.ClassFound.{class-there, some-total}
use Rattle.lower_bounds.proofs.class.find_class.Given as given
use Rattle.lower_bounds.proofs.class.find_class.Goals as goal
use Rattle.lower_bounds.proofs.class.find_class.Goals.{After-class}

-- the steps of all, with those for the bounds
in_all : (g : given.Over) (c : After-class g) (after : ℕ)
    → after ≤ c.class.new.steps + (value_count c.upper_into.new.out + 2 ^ value_count c.upper_into.new.out)
    * (2 * length c.upper_into.new.out + 2)
    → after ≤ c.args.steps.now + 7 * (g.T.Nodes.width c.args.tree.now + 1) * 2 ^ g.T.Nodes.width c.args.tree.now
in_all g c after bounds =
    let n = g.T.Nodes.width c.args.tree.now in
    let u = c.upper_into.new.out in
    let wide : length u ≡ n
    = omega (arith, c.upper_into.ensures.dims, c.any-u.ensures.dims, c.dims.ensures.value, c.of-tree.ensures.width) in
    let few : value_count u ≤ n = omega (arith, few_values u, wide) in
    let below : after ≤ c.class.new.steps + (value_count u + 2 ^ value_count u) * (2 * n + 2) = rw wide at bounds in
    omega (
      arith,
      below,
      c.class.ensures.steps,
      c.upper_into.ensures.steps,
      c.find.ensures.steps,
      c.upper_into.ensures.dims,
      wide,
      c.requires.dims,
      steps_in_all n (value_count u) few,
    )

pub unwrap-total-requires : goal.unwrap-total-requires
unwrap-total-requires g c =
    let s = c.dims.ensures.rows in
    some-total c.class.result _ (c.class.ensures.value
    ∙ class-there _ _ s.0 s.1 c.args.cell.now c.in-Some.node.0 c.in-Some.ensures.there
    (c.in-Some.ensures.found s.0 s.1))

pub returns-in_err-lowers-clause-steps : goal.returns-in_err-lowers-clause-steps
returns-in_err-lowers-clause-steps g c
    = in_all g (goal.at.returns-in_err-lowers-clause-steps g c).After-class c.bounds_of.new.steps
    (rw c.count_values.ensures.value at c.bounds_of.ensures.steps)

pub returns-clause-steps : goal.returns-clause-steps
returns-clause-steps g c
    = in_all g (goal.at.returns-clause-steps g c).After-class c.bounds_of.new.steps
    (rw c.count_values.ensures.value at c.bounds_of.ensures.steps)
