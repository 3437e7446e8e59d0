use Rattle.std.proofs.Common.{◌∙◌, sym}
use Rattle.slab.specs.Slab as slots
use Rattle.qc_arena.specs.Records.{nodes_of}
use Rattle.qc_arena.proofs.Listed.{first_given}
use Rattle.qc_arena.proofs.record_store.give_edges.Goals as goal

pub returns-in-1-clause-here : goal.returns-in-1-clause-here
returns-in-1-clause-here c =
    c.put_own.ensures.here ∙ first_given (slots.get (nodes_of c.args.store.now.records c.args.store.now.lists) c.args.node)
    c.args.list _ c.requires.none (sym c.count.ensures.value ∙ c.in-1.is) c.at-dim.ensures.value
