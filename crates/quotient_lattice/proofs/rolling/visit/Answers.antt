use Rattle.std.proofs.Common.{[], ◌∷◌, ◌++◌, cond, map, refl, sym, ap, ◌∙◌, true≢false, arith}
use Rattle.std.proofs.lemmas.Result.{on_ok_weaker}
use Rattle.quotient_lattice.specs.Candidates.{edges_on_way}
use Rattle.quotient_lattice.specs.NodeCells.{number_of}
use Rattle.quotient_lattice.proofs.Counted.{steps_of_met, steps_of_seen}
use Rattle.quotient_lattice.proofs.Visited.{nothing_more}
use Rattle.quotient_lattice.proofs.rolling.visit.Goals as goal

pub returns-then-wants-clause-visited : goal.returns-then-wants-clause-visited
returns-then-wants-clause-visited g c = λ source h.
    on_ok_weaker c.push_placed.result
    (λ pushed. record {
      met_more = pushed ∙ ap (λ b. map number_of c.args.met.now.items ++ cond b (c.args.node.0 ∷ []) [])
          c.if-wants.ensures.value;
      found = [];
      seen_more = refl;
      each = λ j. (λ m. absurd m, λ p. absurd (true≢false (c.if-wants.ensures.value ∙ p.0)));
    })
    c.push_placed.ensures.numbers

pub returns-in-Ok-clause-visited : goal.returns-in-Ok-clause-visited
returns-in-Ok-clause-visited g c = λ source h.
    on_ok_weaker c.insert_each.result
    (λ inserted. record {
      met_more = nothing_more (map number_of c.args.met.now.items) c.args.node.0 _ (sym c.if-wants.ensures.value);
      found = map number_of c.in-Ok.found.items;
      seen_more = inserted;
      each = λ j. (
        λ m. (sym c.if-wants.ensures.value, (c.in-Ok.ensures.each source h j).0 m),
        λ p. (c.in-Ok.ensures.each source h j).1 p.1,
      );
    })
    c.insert_each.ensures

pub returns-then-wants-clause-steps : goal.returns-then-wants-clause-steps
returns-then-wants-clause-steps g c =
    let tree = c.args.selection.now.tree.now.tree in
    omega (
      arith,
      c.push_placed.ensures.steps,
      c.if-wants.ensures.steps,
      steps_of_met c.args.selection.now.tree.now.width (edges_on_way tree c.args.node.0),
    )

pub returns-in-Ok-clause-steps : goal.returns-in-Ok-clause-steps
returns-in-Ok-clause-steps g c =
    let tree = c.args.selection.now.tree.now.tree in
    omega (
      arith,
      c.in-Ok.ensures.steps,
      c.if-wants.ensures.steps,
      steps_of_seen c.args.selection.now.tree.now.width (edges_on_way tree c.args.node.0),
    )

pub returns-in-Err-clause-steps : goal.returns-in-Err-clause-steps
returns-in-Err-clause-steps g c =
    let tree = c.args.selection.now.tree.now.tree in
    omega (
      arith,
      c.in-Err.ensures.steps,
      c.if-wants.ensures.steps,
      steps_of_seen c.args.selection.now.tree.now.width (edges_on_way tree c.args.node.0),
    )
