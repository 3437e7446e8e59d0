-- A whole snapshot: its mark, its schema, the texts of each dimension and the rows by their codes.
use Rattle.std.specs.Prelude.{◌≡◌, ◌<◌, ◌^◌, ◌++◌, ℕ, List, Option, Some, None, Result, Ok, Err, codes, length, if◌then◌else◌}
use Rattle.std.specs.Int.{w32}
use Rattle.std.specs.List.{AllByRecursion}
use Rattle.std.specs.Str.{bytes_eq}
use Rattle.cube_defs.specs.Text.{Text}
use Rattle.cube_defs.specs.Rows.{Row}
use Rattle.qc_schema.specs.Schema.{Layout}
use Rattle.qc_schema.specs.Grammar.{schema_in}
use Rattle.qc_schema.specs.Spelling.{layout_text}
use Rattle.cube_snapshot.specs.Format.{Format, then_format, number, run, mapped_format, sized, repeated}
use Rattle.cube_snapshot.specs.Parts.{AreTexts, IsRow, rows, texts}

-- the bytes at the beginning of each snapshot
abbrev pub mark_text : List ℕ
mark_text = codes "QCUBESN1"

abbrev pub mark_in : List ℕ → Option (Unit {0})
mark_in bytes = if bytes_eq bytes mark_text then Some tt else None

abbrev pub mark : Format (Unit {0})
mark = mapped_format (run 8) (λ _. mark_text) mark_in

-- the schema that a text is the canonical text of
abbrev pub if_canonical : {E : Type 0} → List ℕ → Result Layout E → Option Layout
if_canonical bytes (Err e) = None
if_canonical bytes (Ok layout) = if bytes_eq bytes (layout_text layout) then Some layout else None

abbrev pub schema_of : List ℕ → Option Layout
schema_of bytes = if_canonical bytes (schema_in bytes)

-- a schema by its canonical text, after the length of that
abbrev pub schema : Format Layout
schema = mapped_format (sized (number w32)) layout_text schema_of

-- a schema, and for each of its dimensions the texts, whose places are their codes; and rows by their codes
pub record Parts : Type 0 where
  pub schema : Layout
  pub texts : List (List Text)
  pub rows : List (Row ℕ)

-- the parts as they stand one after another, from the mark on
abbrev pub Sequence : Type 0
Sequence = Unit {0} × (Layout × (List (List Text) × List (Row ℕ)))

abbrev pub sequence_of : Parts → Sequence
sequence_of p = (tt, (p.schema, (p.texts, p.rows)))

abbrev pub parts_of : Sequence → Parts
parts_of s = record { schema = s.1.0; texts = s.1.1.0; rows = s.1.1.1 }

-- the texts and the rows that stand after a schema
abbrev pub texts_and_rows : Layout → Format (List (List Text) × List (Row ℕ))
texts_and_rows layout =
    then_format (repeated texts (length layout.dims)) (λ _. rows (length layout.dims) (length layout.measures))

abbrev pub sequence : Format Sequence
sequence = then_format mark (λ _. then_format schema texts_and_rows)

-- the whole of them; nothing follows
abbrev pub snapshot : Format Parts
snapshot = mapped_format sequence sequence_of (λ s. Some (parts_of s))

-- the spelling of parts, by the text of their schema and its numbers of dimensions and measures
abbrev pub parts_format : List ℕ → List (List Text) → ℕ → ℕ → List (Row ℕ) → List ℕ
parts_format text lists dims measures list
    = mark_text ++ (((number w32).put (length text) ++ text)
    ++ ((repeated texts dims).put lists ++ (rows dims measures).put list))

-- a schema whose canonical text is read as it
pub record IsSpelled (layout : Layout) : Type 0 where
  pub few : length (layout_text layout) < 2 ^ 32
  pub again : schema_in (layout_text layout) ≡ Ok layout

-- the texts of so many dimensions that have a spelling
pub record AreLists (dims : ℕ) (lists : List (List Text)) : Type 0 where
  pub dims_are : length lists ≡ dims
  pub each : AllByRecursion AreTexts lists

-- the rows of so many dimensions and measures that have a spelling
pub record AreRows (dims measures : ℕ) (list : List (Row ℕ)) : Type 0 where
  pub few : length list < 2 ^ 32
  pub each : AllByRecursion (IsRow dims measures) list

-- the parts that have a spelling
pub record IsSnapshot (p : Parts) : Type 0 where
  pub spelled : IsSpelled p.schema
  pub texts_are : AreLists (length p.schema.dims) p.texts
  pub rows_are : AreRows (length p.schema.dims) (length p.schema.measures) p.rows
