use Rattle.std.proofs.Common.{◌≡◌, ◌+◌, ◌*◌, ◌≤◌, ◌&&◌, length, nat_eq}
use Rattle.std.specs.Prelude.{IsSome}
use Rattle.std.specs.FinMap as map
use Rattle.cube_defs.specs.Cell.{depth, leq, mask, meet}
use Rattle.qc_arena.specs.RecordReaders.{record_at}
use Rattle.batch_insert.proofs.shared.common.Given as goal

abbrev pub invariant-up : goal.invariant-up
invariant-up g l = record {
  there : IsSome (map.get l.insertion.arena.now.now l.at.0);
  common : l.values + mask (meet nat_eq (record_at l.insertion.arena.now.now l.at.0).cell l.insertion.tuple.now)
      ≡ mask (meet nat_eq (record_at l.insertion.arena.now.now l.fn.node.0).cell l.insertion.tuple.now);
  below : leq nat_eq (record_at l.insertion.arena.now.now l.fn.node.0).cell l.insertion.tuple.now
      ≡ (l.is_below && leq nat_eq (record_at l.insertion.arena.now.now l.at.0).cell l.insertion.tuple.now);
  steps : l.steps + 2 * depth (record_at l.insertion.arena.now.now l.at.0).cell ≤ l.fn.steps
      + 2 * length l.insertion.tuple.now;
}

abbrev pub decreases-up : goal.decreases-up
decreases-up g l = depth (record_at l.insertion.arena.now.now l.at.0).cell
