use Rattle.std.proofs.Common.{◌∷◌, [], Some, ap, true, false, subst, sym, ◌∙◌, ℕ}
use Rattle.std.specs.FinMap as map
use Rattle.std.specs.Option.{option_map}
use Rattle.cube_defs.specs.Tree.{Edge}
use Rattle.build_trace.specs.Trace.Act.{Label}
use Rattle.qc_arena.specs.Edges.{with_edge}
use Rattle.qc_arena.specs.Map.{with_forced}
use Rattle.class_builder.specs.Building.{PerformsActs}
use Rattle.class_builder.proofs.ActSteps.{does_label}
use Rattle.class_builder.proofs.acts.labels.put_label.Goals as goal
use Rattle.tree_laws.proofs.CallerLemmas.{some_there}

pub returns-then-is_forced-clause-made : goal.returns-then-is_forced-clause-made
returns-then-is_forced-clause-made g c = λ measures rows f t at target.
    let a = c.args.arena.now in
    let b = c.set_forced.new.self in
    let k = c.args.node.0 in
    let e : Edge ℕ ℕ = record { dim = c.args.label.0; value = c.args.label.1; target = c.args.label.2.0 } in
    let m = some_there (map.get a.now k) c.requires.change.there in
    let edged = c.in-Ok.ensures.here ∙ ap (option_map (with_edge e)) m.1 in
    subst (λ forced. PerformsActs measures rows (Label forced f c.args.label.0 c.args.label.1 t ∷ []) a b)
    (sym c.if-is_forced.true)
    (does_label measures rows a b k true f t c.args.label.0 c.args.label.1 c.args.label.2.0 at target m.0 m.1
    (record {
      here = c.set_forced.ensures.here ∙ ap (option_map (with_forced (Some e))) edged;
      others = λ q n. c.set_forced.ensures.others q n ∙ c.in-Ok.ensures.others q n;
      rest = c.set_forced.ensures.frame ∙ c.in-Ok.ensures.frame;
    })
    (λ q. c.set_forced.ensures.touched q ∙ c.in-Ok.ensures.touched q))

pub returns-else-is_forced-clause-made : goal.returns-else-is_forced-clause-made
returns-else-is_forced-clause-made g c = λ measures rows f t at target.
    let a = c.args.arena.now in
    let b = c.set_edge.new.self in
    let k = c.args.node.0 in
    let e : Edge ℕ ℕ = record { dim = c.args.label.0; value = c.args.label.1; target = c.args.label.2.0 } in
    let m = some_there (map.get a.now k) c.requires.change.there in
    subst (λ forced. PerformsActs measures rows (Label forced f c.args.label.0 c.args.label.1 t ∷ []) a b)
    (sym c.if-is_forced.false)
    (does_label measures rows a b k false f t c.args.label.0 c.args.label.1 c.args.label.2.0 at target m.0 m.1
    (record {
      here = c.in-Ok.ensures.here ∙ ap (option_map (with_edge e)) m.1;
      others = c.in-Ok.ensures.others;
      rest
          = c.in-Ok.ensures.frame;
    })
    c.in-Ok.ensures.touched)
