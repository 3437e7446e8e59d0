use Rattle.std.proofs.Common.{Some, ap, ◌∙◌}
use Rattle.std.specs.FinMap as map
use Rattle.std.specs.Option.{option_map}
use Rattle.aggregates.specs.Views.{agg_in}
use Rattle.qc_arena.specs.Map.{with_class}
use Rattle.class_builder.proofs.ActSteps.{does_mark}
use Rattle.class_builder.proofs.acts.classes.mark_class.Goals as goal
use Rattle.tree_laws.proofs.CallerLemmas.{some_there}

pub returns-clause-made : goal.returns-clause-made
returns-clause-made g c = λ measures rows w at.
    let m = some_there (map.get c.args.arena.now.now c.args.node.0) c.requires.change.there in
    does_mark measures rows c.args.arena.now c.set_class.new.self c.args.node.0 w (agg_in c.args.agg) at m.0 m.1
    (record {
      here = c.set_class.ensures.here ∙ ap (option_map (with_class (Some (agg_in c.args.agg)))) m.1;
      others
          = c.set_class.ensures.others;
      rest = c.set_class.ensures.frame;
    })
    c.set_class.ensures.touched
