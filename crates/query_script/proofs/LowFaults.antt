-- The fault of a record is at a low place.
use Rattle.std.proofs.Common.{◌≡◌, ℕ, zero, suc, ◌+◌, ◌<◌, ◌≤◌, Bool, true, false, cond, length, List, [], ◌∷◌, Some, None, Ok, Err, refl}
use Rattle.std.proofs.Common.{arith}
use Rattle.std.specs.Prelude.{IfSome, Option, Result}
use Rattle.cube_defs.specs.Answers.{AggKind, Bound}
use Rattle.cube_defs.specs.Text.{Text}
use Rattle.cell_core.specs.declared.fields.Field as asked
use Rattle.text_lines.specs.Lines.{begins_with_mark}
use Rattle.query_script.specs.Faults as faults
use Rattle.query_script.specs.Faults.{LineFault}
use Rattle.query_script.specs.Fields.{cons_asked, field_of, fields_from}
use Rattle.query_script.specs.Records.{fields_in, record_in}
use Rattle.query_script.specs.Rollups.{IsLow, value_at, with_record}
use Rattle.query_script.specs.declared.record.Shape.{Shape}
use Rattle.query_script.specs.declared.record.Shape.TheVariants as shapes

fields-low : (ask : Text → Option asked.Field) (k dims : ℕ) (texts : List Text) (fault : LineFault) → k + dims ≤ 100
    → fields_from ask k dims texts ≡ Err fault → IsLow fault
fields-low ask k zero [] fault l e = absurd (cc e)
fields-low ask k zero (text ∷ texts) fault l e = let same : faults.Field k ≡ fault = cc in
    rw (← same) (omega (arith, l))
fields-low ask k (suc dims) [] fault l e = let same : faults.Field k ≡ fault = cc in rw (← same) (omega (arith, l))
fields-low ask k (suc dims) (text ∷ texts) fault l e
    = by (ask text) (fields_from ask (k + 1) dims texts)
    (λ f m. fields-low ask (k + 1) dims texts f (omega (arith, l)) m) refl e
  where
    by : (o : Option asked.Field) (r : Result (List asked.Field) LineFault) → ((f : LineFault) → r ≡ Err f → IsLow f)
        → r ≡ r → cons_asked k o r ≡ Err fault → IsLow fault
    by None r more s m = let same : faults.Field k ≡ fault = cc in rw (← same) (omega (arith, l))
    by (Some field) (Err f) more s m = let same : f ≡ fault = cc in more fault (rw same refl)
    by (Some field) (Ok fields) more s m = absurd (cc m)

pub record-low : (shape : Shape) (dims : ℕ) (rest : List ℕ) (fault : LineFault) → dims ≤ 90
    → record_in shape dims rest ≡ Err fault → IsLow fault
record-low shape dims rest fault l e = by (begins_with_mark rest) e
  where
    by : (b : Bool) → cond b (Err (faults.Field 1)) (fields_from (field_of shape) 1 dims (fields_in rest)) ≡ Err fault
        → IsLow fault
    by true m = let same : faults.Field 1 ≡ fault = cc in rw (← same) (omega arith)
    by false m = fields-low (field_of shape) 1 dims (fields_in rest) fault (omega (arith, l)) m

pub low-cause : (cause : Option LineFault) (read : Result (List asked.Field) LineFault)
    → ((fault : LineFault) → read ≡ Err fault → IsLow fault) → IfSome cause (λ fault. read ≡ Err fault)
    → IfSome cause IsLow
low-cause None read low e = tt
low-cause (Some fault) read low e = low fault e

-- the value of a roll-up, where there is a word for it
pub value-there : (dims : ℕ) (kind : AggKind) (bound : Bound) (k : ℕ) (word : Text) (rest : List ℕ) → 0 < length word
    → value_at dims kind bound k word rest ≡ with_record kind bound k word (record_in shapes.Cell dims rest)
value-there dims kind bound k [] rest some = absurd (omega arith)
value-there dims kind bound k (b ∷ bs) rest some = refl
