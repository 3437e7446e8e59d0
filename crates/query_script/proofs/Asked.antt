-- What a record asks.
use Rattle.std.proofs.Common.{◌≡◌, ◌+◌, ◌∙◌, ℕ, zero, suc, List, [], ◌∷◌, length, refl, sym, ap, arith, Some, None, Ok, Err, true, false}
use Rattle.std.proofs.Common.{Bool, cond, IsUtf8, All}
use Rattle.std.specs.Prelude.{Option, Result, ⊤}
use Rattle.std.specs.List.{flat_map}
use Rattle.std.specs.Str.{bytes_eq}
use Rattle.std.proofs.lemmas.List.Elements.{All-cons, All-nil}
use Rattle.csv.specs.Reading.{default_config, records}
use Rattle.cube_defs.specs.Text.{Text}
use Rattle.cell_core.specs.declared.fields.Field as asked
use Rattle.cell_core.specs.declared.fields.Field.TheVariants as asks
use Rattle.text_lines.specs.Lines.{begins_with_mark}
use Rattle.query_script.specs.Faults as faults
use Rattle.query_script.specs.Faults.{LineFault}
use Rattle.query_script.specs.Fields.{cons_asked, field_of, fields_from, is_several, value_of}
use Rattle.query_script.specs.Progress.{asked_after}
use Rattle.query_script.specs.Commands.{IsCellField, fields_in, record_in}
use Rattle.query_script.specs.declared.record.Shape.{Shape}
use Rattle.query_script.specs.declared.record.Shape.TheVariants as shapes
use Rattle.query_script.proofs.Asking.{asks-first}
use Rattle.text_lines.proofs.CallerLemmas.{text-records}

-- the records that are read are those of the rest
pub record-asks : (shape : Shape) (dims : ℕ) (rest bytes : List ℕ) (rows : List (List Text)) → bytes ≡ rest
    → begins_with_mark rest ≡ false → rows ≡ records default_config bytes
    → record_in shape dims rest ≡ asked_after (field_of shape) dims [] (flat_map (λ fields. fields) rows)
record-asks shape dims rest bytes rows same mark e =
    let here : rows ≡ records default_config rest = e ∙ ap (records default_config) same in
    rw (mark, here) (sym (asks-first (field_of shape) dims (fields_in rest)))

pub rows-text : (text : List ℕ) (rows : List (List Text)) → IsUtf8 text → rows ≡ records default_config text
    → All (All IsUtf8) rows
rows-text text rows utf8 e = rw e (text-records text utf8)

-- ---- a field is asked of each dimension, and a cell's field asks Any or one value

cell-field : (text : Text) (field : asked.Field) → field_of shapes.Cell text ≡ Some field → IsCellField field
cell-field text field e = by (bytes_eq text (42 ∷ [])) (is_several text) e
  where
    by : (star several : Bool) → cond star (Some asks.Any) (cond several None (Some (asks.One (value_of text))))
        ≡ Some field → IsCellField field
    by true several m = let same : asks.Any ≡ field = cc in rw (← same) tt
    by false true m = absurd (cc m)
    by false false m = let same : asks.One (value_of text) ≡ field = cc in rw (← same) tt

module _ (ask : Text → Option asked.Field) (P : asked.Field → Type 0) (asks : (text : Text) (field : asked.Field)
    → ask text ≡ Some field → P field) where
  record AreFields (dims : ℕ) (fields : List asked.Field) : Type 0 where
    count : length fields ≡ dims
    each : All P fields

  are-more : (k dims : ℕ) (o : Option asked.Field) (more : Result (List asked.Field) LineFault)
      (fields : List asked.Field) → ((field : asked.Field) → o ≡ Some field → P field)
      → ((rest : List asked.Field) → more ≡ Ok rest → AreFields dims rest) → cons_asked k o more ≡ Ok fields
      → AreFields (suc dims) fields
  are-more k dims (Some field) (Ok rest) fields first then e =
      let same : field ∷ rest ≡ fields = cc in
      let h = then rest refl in
      rw (← same) (record { count = omega (arith, h.count); each = All-cons P field rest (first field refl) h.each })
  are-more k dims _ more fields first then e = absurd (cc e)

  are-fields : (texts : List Text) (k dims : ℕ) (fields : List asked.Field) → fields_from ask k dims texts ≡ Ok fields
      → AreFields dims fields
  are-fields [] k zero fields e = let same : [] ≡ fields = cc in rw (← same) (record { count = refl; each = All-nil P })
  are-fields (text ∷ texts) k (suc dims) fields e =
      are-more k dims (ask text) (fields_from ask (k + 1) dims texts) fields (asks text)
      (are-fields texts (k + 1) dims) e
  are-fields _ k _ fields e = absurd (cc e)

unmarked : (shape : Shape) (dims : ℕ) (rest : List ℕ) (fields : List asked.Field)
    → record_in shape dims rest ≡ Ok fields → fields_from (field_of shape) 1 dims (fields_in rest) ≡ Ok fields
unmarked shape dims rest fields e = by (begins_with_mark rest) e
  where
    by : (mark : Bool) → cond mark (Err (faults.Field 1)) (fields_from (field_of shape) 1 dims (fields_in rest))
        ≡ Ok fields → fields_from (field_of shape) 1 dims (fields_in rest) ≡ Ok fields
    by true m = absurd (cc m)
    by false m = m

pub cell-fields : (dims : ℕ) (rest : List ℕ) (fields : List asked.Field) → record_in shapes.Cell dims rest ≡ Ok fields
    → (length fields ≡ dims) × All IsCellField fields
cell-fields dims rest fields e =
    let h = are-fields (field_of shapes.Cell) IsCellField cell-field (fields_in rest) 1 dims fields
    (unmarked shapes.Cell dims rest fields e) in
    (h.count, h.each)

pub box-fields : (dims : ℕ) (rest : List ℕ) (fields : List asked.Field) → record_in shapes.Box dims rest ≡ Ok fields
    → length fields ≡ dims
box-fields dims rest fields e
    = (are-fields (field_of shapes.Box) (λ field. ⊤) (λ text field h. tt) (fields_in rest) 1 dims fields
    (unmarked shapes.Box dims rest fields e)).count
