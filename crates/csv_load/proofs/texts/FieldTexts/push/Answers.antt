use Rattle.std.proofs.Common.{arith, ap}
use Rattle.std.specs.Prelude.{string_bytes}
use Rattle.text_lines.specs.Records.{bytes_in}
use Rattle.csv_load.proofs.Sizes.{size-texts}
use Rattle.csv_load.proofs.texts.FieldTexts.push.Goals as goal

pub push_text-requires-clause-room : goal.push_text-requires-clause-room
push_text-requires-clause-room c
    = omega (
      arith,
      c.requires,
      size-texts c.self.inside.ends.items (string_bytes c.self.inside.bytes) c.self.invariant,
      ap bytes_in c.self.view_is,
    )
