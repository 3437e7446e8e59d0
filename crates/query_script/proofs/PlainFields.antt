-- What the fields of a plain text ask.
use Rattle.std.proofs.Common.{◌≡◌, ◌<◌, ◌++◌, ℕ, List, [], ◌∷◌, length, refl, arith, true, append-nil}
use Rattle.std.specs.List.{list_all}
use Rattle.cell_core.specs.declared.fields.Field as asked
use Rattle.query_script.specs.Commands.{fields_in}
use Rattle.query_script.specs.Fields.{field_of, fields_from}
use Rattle.query_script.specs.Progress.{asked_after}
use Rattle.query_script.specs.declared.record.Shape.{Shape}
use Rattle.query_script.proofs.Asking.{asks-first}
use Rattle.text_lines.specs.Plain.{is_plain_byte, pieces}
use Rattle.text_lines.proofs.CallerLemmas.{no-records, plain-record}

no-fields : fields_in [] ≡ []
no-fields = rw no-records refl

pub plain-fields : (b : ℕ) (bs : List ℕ) → list_all is_plain_byte (b ∷ bs) ≡ true → fields_in (b ∷ bs) ≡ pieces (b ∷ bs)
plain-fields b bs plain = rw (plain-record b bs plain) (append-nil (pieces (b ∷ bs)))

pub asks-nothing : (shape : Shape) (dims : ℕ) (text : List ℕ) (none : List asked.Field) → none ≡ [] → length text ≡ 0
    → asked_after (field_of shape) dims none [] ≡ fields_from (field_of shape) 1 dims (fields_in text)
asks-nothing shape dims [] none start e = rw (start, no-fields) (asks-first (field_of shape) dims [])
asks-nothing shape dims (b ∷ bs) none start e = absurd (omega (arith, e))

pub asks-pieces : (shape : Shape) (dims : ℕ) (text : List ℕ) (none : List asked.Field) → none ≡ []
    → list_all is_plain_byte text ≡ true → 0 < length text
    → asked_after (field_of shape) dims none (pieces text ++ []) ≡ fields_from (field_of shape) 1 dims (fields_in text)
asks-pieces shape dims [] none start plain some = absurd (omega (arith, some))
asks-pieces shape dims (b ∷ bs) none start plain some
    = rw (start, append-nil (pieces (b ∷ bs)), plain-fields b bs plain)
    (asks-first (field_of shape) dims (pieces (b ∷ bs)))
