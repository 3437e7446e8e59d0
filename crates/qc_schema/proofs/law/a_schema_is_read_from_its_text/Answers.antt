use Rattle.qc_schema.proofs.Returning.{read-again}
use Rattle.qc_schema.proofs.law.a_schema_is_read_from_its_text.Goals as goal

pub returns : goal.returns
returns c = read-again
