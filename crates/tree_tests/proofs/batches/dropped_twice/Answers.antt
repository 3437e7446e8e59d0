use Rattle.qc_arena.proofs.CallerLemmas.{can_again}
use Rattle.tree_tests.proofs.batches.dropped_twice.Goals as goal

pub drop_edge-requires-2 : goal.drop_edge-requires-2
drop_edge-requires-2 g c
    = record {
      change = can_again c.args.arena.now c.drop_edge.new.self c.args.node.0 _ c.requires
          c.drop_edge.ensures.here c.drop_edge.ensures.touched c.drop_edge.ensures.frame;
    }
