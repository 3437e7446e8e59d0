use Rattle.std.proofs.Common.{arith, ◌∙◌, Some, ap}
use Rattle.std.specs.Option.{option_map}
use Rattle.aggregates.specs.Views.{agg_in}
use Rattle.qc_arena.specs.Map.{with_class}
use Rattle.batch_insert.proofs.Keeping.{below_stays, change_stays, keeps_class, keeps_forced, keeps_then}
use Rattle.batch_insert.proofs.kinds.mark.Goals as goal

pub set_class-requires : goal.set_class-requires
set_class-requires g c = record {
  change = change_stays c.args.row.now.tuple.now c.args.arena.now c.set_forced.new.self c.args.node.0
      (keeps_forced c.args.row.now.tuple.now c.args.arena.now c.set_forced.new.self c.args.node.0 _ c.requires.node
      c.set_forced.ensures.here c.set_forced.ensures.others c.set_forced.ensures.touched c.set_forced.ensures.frame
      c.requires.change.opened) c.requires.change;
}

pub returns : goal.returns
returns g c =
    let freed = keeps_forced c.args.row.now.tuple.now c.args.arena.now c.set_forced.new.self c.args.node.0 _ c.requires.node
    c.set_forced.ensures.here c.set_forced.ensures.others c.set_forced.ensures.touched c.set_forced.ensures.frame
    c.requires.change.opened in
    let marked = keeps_class c.args.row.now.tuple.now c.set_forced.new.self c.set_class.new.self c.args.node.0 _
    (below_stays c.args.row.now.tuple.now c.args.arena.now c.set_forced.new.self c.args.node.0 freed c.requires.node)
    c.set_class.ensures.here c.set_class.ensures.others c.set_class.ensures.touched c.set_class.ensures.frame
    freed.opened in
    record {
      keeps = keeps_then c.args.row.now.tuple.now c.args.arena.now c.set_forced.new.self c.set_class.new.self freed marked;
      here = c.set_class.ensures.here
          ∙ ap (option_map (with_class (Some (agg_in c.args.agg)))) c.set_forced.ensures.here;
      others = λ q off. c.set_class.ensures.others q off ∙ c.set_forced.ensures.others q off;
      steps = omega (arith, c.set_class.ensures.steps, c.set_forced.ensures.steps);
    }
