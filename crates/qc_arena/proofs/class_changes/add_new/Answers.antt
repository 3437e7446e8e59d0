use Rattle.std.proofs.Common.{◌∙◌, ap, inr, sym}
use Rattle.std.specs.Option.{option_copied, option_map}
use Rattle.slab.specs.Slab as slots
use Rattle.aggregates.specs.Views.{agg_in}
use Rattle.qc_arena.specs.Inside.{join}
use Rattle.qc_arena.proofs.Pairs.{sides_differ}
use Rattle.qc_arena.proofs.class_changes.add_new.Goals as goal

pub returns-in-Some-clause-adds : goal.returns-in-Some-clause-adds
returns-in-Some-clause-adds c =
    let to = sym c.class_on_side.ensures ∙ ap (option_map agg_in) c.in-Some.is in
    inr (
      c.in-Some.agg,
      c.push_reserved.ensures.items,
      to,
      sides_differ c.args.added (option_copied c.args.was) (join (slots.get c.args.nodes.now c.args.node))
          (c.is_unchanged.ensures.other c.if-is_unchanged.false),
    )
