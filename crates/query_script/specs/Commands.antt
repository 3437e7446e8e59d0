-- What a line asks, or its fault.
use Rattle.std.specs.Prelude.{◌≡◌, ◌<◌, ◌≤◌, ◌||◌, ⊤, ℕ, Bool, true, false, List, [], ◌∷◌, length, codes, All, Result, Ok, Err}
use Rattle.std.specs.Prelude.{if◌then◌else◌}
use Rattle.std.specs.Str.{bytes_eq, is_utf8}
use Rattle.cube_defs.specs.Text.{Text}
use Rattle.cube_defs.specs.Answers as answers
use Rattle.cell_core.specs.declared.fields.Field as asked
use Rattle.cell_core.specs.declared.fields.Field.TheVariants as asks
use Rattle.cube_defs.specs.declared.limits.TheConstants.{MAX_TEXT}
use Rattle.qc_schema.specs.Grammar.{is_new_name}
use Rattle.qc_schema.specs.Schema.{Layout, is_name}
use Rattle.query_script.specs.Faults as faults
use Rattle.query_script.specs.Faults.{LineFault}
pub use Rattle.query_script.specs.Records.{fields_in, record_in}
use Rattle.query_script.specs.Icebergs.{iceberg_in}
use Rattle.query_script.specs.Lines.{rest_of, stats_line, word_of}
use Rattle.query_script.specs.Queries as queries
use Rattle.query_script.specs.Queries.{Query}
use Rattle.query_script.specs.Questions.{Apply, Ask, At, Load, Pin, Question, Try, Unpin, Widen}
use Rattle.query_script.specs.Rollups.{rollup_in}
use Rattle.query_script.specs.Widens.{widen_in}
use Rattle.query_script.specs.declared.record.Shape.TheVariants as shapes

-- the name of a file, which is not empty
abbrev pub name_in : List ℕ → Result Text LineFault
name_in [] = Err (faults.Field 1)
name_in (b ∷ bs) = Ok (b ∷ bs)

-- what is made of what was read, or the fault
abbrev pub asked_with : {X Y : Type 0} → (X → Y) → Result X LineFault → Result Y LineFault
asked_with make (Ok x) = Ok (make x)
asked_with make (Err fault) = Err fault

-- what the word of a query and its rest ask of a cube of this schema
abbrev pub query_named : Layout → Text → List ℕ → Result Query LineFault
query_named layout word rest =
    if bytes_eq word (codes "point") then asked_with queries.Point (record_in shapes.Cell (length layout.dims) rest)
    else if bytes_eq word (codes "range") then asked_with queries.Range (record_in shapes.Box (length layout.dims) rest)
    else if bytes_eq word (codes "bounds")
    then asked_with queries.Bounds (record_in shapes.Cell (length layout.dims) rest)
    else if bytes_eq word (codes "iceberg") then iceberg_in layout rest
    else if bytes_eq word (codes "parents")
    then asked_with queries.Parents (record_in shapes.Cell (length layout.dims) rest)
    else if bytes_eq word (codes "children")
    then asked_with queries.Children (record_in shapes.Cell (length layout.dims) rest)
    else if bytes_eq word (codes "rollup") then rollup_in layout rest
    else Err faults.Command

-- what a line that is a query asks; `stats` with anything after it is none
abbrev pub query_in_line : Layout → List ℕ → Result Query LineFault
query_in_line layout line = if bytes_eq line stats_line then Ok queries.Stats
    else query_named layout (word_of line) (rest_of line)

-- what may name a pin: a name, and also `op`
abbrev pub is_pin_name : List ℕ → Bool
is_pin_name name = is_name name || bytes_eq name (codes "op")

-- the name of a pin
abbrev pub pin_name_in : List ℕ → Result Text LineFault
pin_name_in name = if is_pin_name name then Ok name else Err (faults.Field 1)

-- what a line asks after the word `at`: the name runs to the first space or to the end, and what follows that space is
-- a query
abbrev pub at_in : Layout → List ℕ → Result Question LineFault
at_in layout rest =
    if is_pin_name (word_of rest) then asked_with (At (word_of rest)) (query_in_line layout (rest_of rest))
    else Err (faults.Field 1)

-- what a command word and its rest ask of a cube of this schema
abbrev pub command_named : Layout → Text → List ℕ → Result Question LineFault
command_named layout word rest =
    if bytes_eq word (codes "load") then asked_with Load (name_in rest)
    else if bytes_eq word (codes "apply") then asked_with Apply (name_in rest)
    else if bytes_eq word (codes "try") then asked_with Try (name_in rest)
    else if bytes_eq word (codes "widen") then widen_in layout rest
    else if bytes_eq word (codes "pin") then asked_with Pin (pin_name_in rest)
    else if bytes_eq word (codes "unpin") then asked_with Unpin (pin_name_in rest)
    else if bytes_eq word (codes "at") then at_in layout rest
    else asked_with Ask (query_named layout word rest)

-- what a line asks of a cube of this schema; `stats` with anything after it is no command
abbrev pub command_in : Layout → List ℕ → Result Question LineFault
command_in layout line =
    if is_utf8 line then (if bytes_eq line stats_line then Ok (Ask queries.Stats)
    else command_named layout (word_of line) (rest_of line))
    else Err faults.Utf8

-- whether an answer to a query may want memory
abbrev pub query_wants : Query → Bool
query_wants queries.Stats = false
query_wants query = true

-- whether an answer may want memory
abbrev pub wants_memory : Question → Bool
wants_memory (Load name) = true
wants_memory (Apply name) = true
wants_memory (Try name) = true
wants_memory (Widen name value) = true
wants_memory (Pin name) = true
wants_memory (Unpin name) = true
wants_memory (At name query) = true
wants_memory (Ask query) = query_wants query

-- what a cell may ask of a dimension
abbrev pub IsCellField : asked.Field → Type 0
IsCellField asks.Any = ⊤
IsCellField asks.All = ⊥
IsCellField (asks.One text) = ⊤
IsCellField (asks.Among texts) = ⊥
IsCellField (asks.Between low high) = ⊥

-- the measure that is asked for, if one is, is one of so many
abbrev pub IsMeasured : ℕ → answers.AggKind → Type 0
IsMeasured measures answers.Count = ⊤
IsMeasured measures (answers.Sum m) = m < measures
IsMeasured measures (answers.Least m) = m < measures
IsMeasured measures (answers.Greatest m) = m < measures
IsMeasured measures (answers.Mean m) = m < measures

-- something is asked of each dimension, and a measure is one of the schema's
abbrev pub IsQuery : Layout → Query → Type 0
IsQuery layout (queries.Point fields) = (length fields ≡ length layout.dims) × All IsCellField fields
IsQuery layout (queries.Range fields) = length fields ≡ length layout.dims
IsQuery layout (queries.Bounds fields) = (length fields ≡ length layout.dims) × All IsCellField fields
IsQuery layout (queries.Iceberg kind bound value) = IsMeasured (length layout.measures) kind
IsQuery layout queries.Stats = ⊤
IsQuery layout (queries.Parents fields) = (length fields ≡ length layout.dims) × All IsCellField fields
IsQuery layout (queries.Children fields) = (length fields ≡ length layout.dims) × All IsCellField fields
IsQuery layout (queries.Rollup kind bound value fields) =
    IsMeasured (length layout.measures) kind × (length fields ≡ length layout.dims) × All IsCellField fields

-- a file's name isn't empty, that of a new dimension is new and its value short, and that of a pin may be one
abbrev pub IsQuestion : Layout → Question → Type 0
IsQuestion layout (Load name) = 0 < length name
IsQuestion layout (Apply name) = 0 < length name
IsQuestion layout (Try name) = 0 < length name
IsQuestion layout (Widen name value) = (is_new_name layout name ≡ true) × (length value ≤ MAX_TEXT)
IsQuestion layout (Pin name) = is_pin_name name ≡ true
IsQuestion layout (Unpin name) = is_pin_name name ≡ true
IsQuestion layout (At name query) = (is_pin_name name ≡ true) × IsQuery layout query
IsQuestion layout (Ask query) = IsQuery layout query
