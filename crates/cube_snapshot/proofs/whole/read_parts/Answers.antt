use Rattle.std.proofs.Common.{sym}
use Rattle.cube_snapshot.proofs.Stages.{reads_parts}
use Rattle.cube_snapshot.proofs.whole.read_parts.Goals as goal

pub returns-in-Ok-clause-reads : goal.returns-in-Ok-clause-reads
returns-in-Ok-clause-reads c =
    reads_parts c.args.bytes.now c.in-Some.rest.now c.in-Ok.rest.now c.in-Ok.schema c.parts_after_schema.result
    (sym c.in-Some.ensures.read) c.in-Ok.ensures.reads.0 c.in-Ok.ensures.layout c.parts_after_schema.ensures.reads
    c.parts_after_schema.ensures.schema
