use Rattle.std.proofs.Common.{◌<◌, ◌∙◌, sym, arith, ap, length, get_or, List, [], ℕ}
use Rattle.std.specs.Prelude.{string_bytes}
use Rattle.csv_load.proofs.Cutting.{get_or-texts_of, length-texts_of}
use Rattle.csv_load.proofs.texts.FieldTexts.get.Goals as goal

pub text_in-requires-clause-within : goal.text_in-requires-clause-within
text_in-requires-clause-within c =
    omega (
      arith,
      ap length c.as_slice.ensures.value,
      length-texts_of c.self.inside.ends.items (string_bytes c.self.inside.bytes),
      ap length c.self.view_is,
    )

pub returns : goal.returns
returns c =
    let lt : c.args.k < length c.self.inside.ends.items
    = omega (
      arith,
      length-texts_of c.self.inside.ends.items (string_bytes c.self.inside.bytes),
      ap length c.self.view_is,
    ) in
    rw c.as_slice.ensures.value at c.text_in.ensures
    ∙ sym (get_or-texts_of c.self.inside.ends.items (string_bytes c.self.inside.bytes) c.args.k lt)
    ∙ ap (λ (xs : List (List ℕ)). get_or xs c.args.k []) c.self.view_is
