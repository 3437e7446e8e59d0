use Rattle.cube_snapshot.proofs.SnapshotLaws.{one_encoding, same_parts}
use Rattle.cube_snapshot.proofs.StateLaws.{one-state}
use Rattle.cube_snapshot.proofs.laws.a_snapshot_has_one_spelling.Goals as goal

pub returns-clause-read : goal.returns-clause-read
returns-clause-read c = one_encoding

pub returns-clause-same : goal.returns-clause-same
returns-clause-same c = same_parts

pub returns-clause-states : goal.returns-clause-states
returns-clause-states c = one-state
