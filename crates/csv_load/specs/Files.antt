-- The changes that a file brings, or its first fault.
use Rattle.std.specs.Prelude.{◌≡◌, ℕ, Bool, true, false, ◌==◌, ◌+◌, List, [], ◌∷◌, length, drop, nat_le, codes, Option, Some, None, Result}
use Rattle.std.specs.Prelude.{Ok, Err, ℤ, slice_index_or, slice_range, if◌then◌else◌}
use Rattle.std.specs.List.{list_all}
use Rattle.std.specs.Str.{bytes_eq, is_utf8}
use Rattle.csv.specs.Reading.{default_config, records}
use Rattle.cube_defs.specs.Text.{Text}
use Rattle.aggregates.specs.Numbers.{amount_in, id_in}
use Rattle.cube_defs.specs.declared.limits.TheConstants.{MAX_TEXT}
use Rattle.qc_schema.specs.Schema.{Layout, Measure, names_of}
use Rattle.csv_load.specs.Batch.{Change, Delete, Insert, change_with}
use Rattle.csv_load.specs.Columns.{cons_some, fields_at, needed_names, places_in}
use Rattle.csv_load.specs.Faults.{Fault, Header, Fields, Utf8, Op, Id, Amount, Value, cons_ok}
use Rattle.text_lines.specs.Lines.{begins_with_two_marks, without_mark}

-- no longer than a text may be
abbrev pub is_short : Text → Bool
is_short text = nat_le (length text) MAX_TEXT

-- an amount for each measure, at its scale
abbrev pub amounts_in : List Measure → List (List ℕ) → Option (List ℤ)
amounts_in [] fields = Some []
amounts_in (measure ∷ measures) [] = None
amounts_in (measure ∷ measures) (field ∷ fields)
    = cons_some (amount_in measure.scale field) (amounts_in measures fields)

-- whether an op is a deletion, `-`, or an insertion, `+`
abbrev pub deletion_in : List ℕ → Option Bool
deletion_in text = if bytes_eq text (codes "-") then Some true
    else (if bytes_eq text (codes "+") then Some false else None)

-- the texts of the dimensions, of a record's needed fields in the schema's order
abbrev pub tuple_of : Layout → List (List ℕ) → List Text
tuple_of layout fields = slice_range fields 1 (1 + length layout.dims)

-- the amounts of the measures, of the same fields
abbrev pub amounts_of : Layout → List (List ℕ) → Option (List ℤ)
amounts_of layout fields = amounts_in layout.measures (drop (1 + length layout.dims) fields)

-- whether they are those of a deletion; where the file has no ops, none are
abbrev pub deletion_of : Bool → Layout → List (List ℕ) → Option Bool
deletion_of false layout fields = Some false
deletion_of true layout fields = deletion_in (slice_index_or fields (length (names_of layout)) [])

-- the insertion of an id, texts and amounts, where these are there and the texts are short
abbrev pub insertion : ℕ → ℕ → List Text → Option (List ℤ) → Result (Change Text) Fault
insertion k id tuple None = Err (Amount k)
insertion k id tuple (Some amounts) = if list_all is_short tuple
    then Ok (Insert (record { id = id; tuple = tuple; amounts = amounts })) else Err (Value k)

-- the change that deletes or not, and its id, where these are there; of a deletion texts and amounts count for nothing
abbrev pub change_with_id : ℕ → Option Bool → Option ℕ → List Text → Option (List ℤ) → Result (Change Text) Fault
change_with_id k None id tuple amounts = Err (Op k)
change_with_id k (Some deletes) None tuple amounts = Err (Id k)
change_with_id k (Some true) (Some id) tuple amounts = Ok (Delete id)
change_with_id k (Some false) (Some id) tuple amounts = insertion k id tuple amounts

-- the change of the k-th record, whose needed fields these are
abbrev pub change_of : Bool → Layout → ℕ → List (List ℕ) → Result (Change Text) Fault
change_of has_op layout k fields =
    if list_all is_utf8 (tuple_of layout fields)
    then change_with_id k (deletion_of has_op layout fields) (id_in (slice_index_or fields 0 []))
    (tuple_of layout fields) (amounts_of layout fields)
    else Err (Utf8 k)

-- the same, in a file whose header has so many fields and these needed places
abbrev pub change_in : Bool → Layout → ℕ → List ℕ → ℕ → List (List ℕ) → Result (Change Text) Fault
change_in has_op layout width places k fields = if length fields == width
    then change_of has_op layout k (fields_at places fields) else Err (Fields k)

-- the changes of the k-th record and of those after it
abbrev pub changes_from : Bool → Layout → ℕ → List ℕ → ℕ → List (List (List ℕ)) → Result (List (Change Text)) Fault
changes_from has_op layout width places k [] = Ok []
changes_from has_op layout width places k (fields ∷ more)
    = cons_ok (change_in has_op layout width places k fields) (changes_from has_op layout width places (k + 1) more)

-- the changes after a header, in which each needed column stands once
abbrev pub changes_under : Bool → Layout → ℕ → Option (List ℕ) → List (List (List ℕ))
    → Result (List (Change Text)) Fault
changes_under has_op layout width None more = Err Header
changes_under has_op layout width (Some places) more = changes_from has_op layout width places 1 more

-- the changes of all records, of which the first is the header
abbrev pub changes_of : Bool → Layout → List (List (List ℕ)) → Result (List (Change Text)) Fault
changes_of has_op layout [] = Err Header
changes_of has_op layout (header ∷ more)
    = changes_under has_op layout (length header) (places_in header (needed_names has_op layout)) more

-- the changes of a file, with the column `op` or without it; one byte order mark may stand at its beginning
abbrev pub file_in : Bool → Layout → List ℕ → Result (List (Change Text)) Fault
file_in has_op layout text = if begins_with_two_marks text then Err Header
    else changes_of has_op layout (records default_config (without_mark text))

-- the insertions of a base file, in its order
abbrev pub base_in : Layout → List ℕ → Result (List (Change Text)) Fault
base_in = file_in false

-- the changes of a batch of corrections, in its order
abbrev pub batch_in : Layout → List ℕ → Result (List (Change Text)) Fault
batch_in = file_in true

-- with these amounts, and any id, the record makes a change; a deletion whatever they are
abbrev pub Makes : Layout → ℕ → List (List ℕ) → Bool → List ℤ → Type 0
Makes layout k fields deletes amounts =
    (id : ℕ) → change_with_id k (Some deletes) (Some id) (tuple_of layout fields) (amounts_of layout fields)
    ≡ Ok (change_with deletes (record { id = id; tuple = tuple_of layout fields; amounts = amounts }))
