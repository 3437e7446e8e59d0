use Rattle.csv_load.proofs.Bases.{insertions, no-op}
use Rattle.csv_load.proofs.files.read_base.Goals as goal

pub returns-clause-no_op : goal.returns-clause-no_op
returns-clause-no_op c = no-op c.read_file.result c.args.schema.now c.args.bytes.now c.read_file.ensures.gives

pub returns-clause-insertions : goal.returns-clause-insertions
returns-clause-insertions c = insertions c.read_file.result c.args.schema.now c.args.bytes.now c.read_file.ensures.gives
