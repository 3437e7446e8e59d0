use Rattle.std.proofs.Common.{ap, length, arith}
use Rattle.std.specs.Prelude.{string_bytes}
use Rattle.csv_load.proofs.Cutting.{length-texts_of}
use Rattle.csv_load.proofs.texts.FieldTexts.len.Goals as goal

pub returns : goal.returns
returns c = omega (
  arith,
  c.len.ensures,
  length-texts_of c.self.inside.ends.items (string_bytes c.self.inside.bytes),
  ap length c.self.view_is,
)
