-- The grammar of a schema: what each line adds to the lines before, or the first cause that holds.
use Rattle.std.specs.Prelude.{ℕ, Bool, true, false, not, ◌&&◌, ◌==◌, ◌+◌, List, [], ◌∷◌, ◌++◌, length, codes, nat_lt, nat_le, Option, Some}
use Rattle.std.specs.Prelude.{None, Result, Ok, Err, if◌then◌else◌}
use Rattle.std.specs.List.{list_any}
use Rattle.std.specs.Str.{bytes_eq, is_utf8, all_ascii_digits}
use Rattle.std.specs.Str.Parse.{digits_value}
use Rattle.cube_defs.specs.Text.{Text}
use Rattle.aggregates.specs.Views.{same_kind}
use Rattle.aggregates.specs.declared.kind.AggKind.{AggKind}
use Rattle.aggregates.specs.declared.kind.AggKind.TheVariants as kinds
use Rattle.qc_schema.specs.Lines.{schema_lines}
use Rattle.text_lines.specs.Cuts.{words_of}
use Rattle.text_lines.specs.Lines.{is_comment}
use Rattle.qc_schema.specs.Schema.{Layout, Measure, is_name, max_dims, max_measures, names_of, version_word}
use Rattle.qc_schema.specs.Progress.{Progress, Fault, NotUtf8, Line}
use Rattle.qc_schema.specs.declared.reader.LastLine.{LastLine}
use Rattle.qc_schema.specs.declared.reader.LastLine.TheVariants as stages
use Rattle.qc_schema.specs.declared.refusal.SchemaCause.{SchemaCause}
use Rattle.qc_schema.specs.declared.refusal.SchemaCause.TheVariants.{Version, Order, Words, Name, Number, End}
use Rattle.qc_schema.specs.declared.limits.SchemaVersion.{SchemaVersion}
use Rattle.qc_schema.specs.declared.limits.SchemaVersion.TheVariants as versions
use Rattle.qc_schema.specs.declared.limits.TheConstants.{DEFAULT_NODES}
use Rattle.cube_defs.specs.declared.limits.TheConstants.{MAX_CODES, MAX_NODES, MAX_ROWS, MAX_SCALE}

infixl 10 ◌>>=◌
abbrev pub ◌>>=◌ : {A B : Type 0} → Result A SchemaCause → (A → Result B SchemaCause) → Result B SchemaCause
(Ok x) >>= f = f x
(Err e) >>= f = Err e

-- which lines may stand after the last one
abbrev pub may_id : LastLine → Bool
may_id stages.Qcube = true
may_id stage = false

abbrev pub may_dim : LastLine → Bool
may_dim stages.Id = true
may_dim stages.Dim = true
may_dim stage = false

abbrev pub may_measure : LastLine → Bool
may_measure stages.Dim = true
may_measure stages.Measure = true
may_measure stage = false

abbrev pub may_index : LastLine → Bool
may_index stages.Dim = true
may_index stages.Measure = true
may_index stages.Index = true
may_index stage = false

abbrev pub may_rows : LastLine → Bool
may_rows stages.Nodes = true
may_rows stage = may_index stage

abbrev pub may_values : LastLine → Bool
may_values stages.Rows = true
may_values stage = may_rows stage

-- a schema may end once it has a dimension
abbrev pub may_end : LastLine → Bool
may_end stages.Values = true
may_end stage = may_values stage

abbrev pub in_order : Bool → Result (Unit {0}) SchemaCause
in_order may = if may then Ok tt else Err Order

-- the one word that is wanted, or two
abbrev pub one_word : List Text → Result Text SchemaCause
one_word (word ∷ []) = Ok word
one_word words = Err Words

abbrev pub two_words : List Text → Result (Text × Text) SchemaCause
two_words (first ∷ second ∷ []) = Ok (first, second)
two_words words = Err Words

abbrev pub is_used : Layout → Text → Bool
is_used l name = list_any (λ y. bytes_eq y name) (names_of l)

-- whether a column that is added may have the name
abbrev pub is_new_name : Layout → Text → Bool
is_new_name l word = is_name word && not (is_used l word)

abbrev pub new_name : Layout → Text → Result Text SchemaCause
new_name l word = if is_name word && not (is_used l word) then Ok word else Err Name

-- one digit, up to MAX_SCALE
abbrev pub scale_in : Text → Result ℕ SchemaCause
scale_in word = if (length word == 1) && all_ascii_digits word && nat_le (digits_value 10 word) MAX_SCALE
    then Ok (digits_value 10 word) else Err Number

-- 1 to 7 digits, of a value from 1 to the most
abbrev pub limit_in : ℕ → Text → Result ℕ SchemaCause
limit_in most word = if nat_lt 0 (length word) && nat_le (length word) 7 && all_ascii_digits word
    && nat_lt 0 (digits_value 10 word) && nat_le (digits_value 10 word) most then Ok (digits_value 10 word)
    else Err Number

-- the place of a measure, counted from the first of these
abbrev pub measure_from : List Measure → ℕ → Text → Option ℕ
measure_from [] k name = None
measure_from (m ∷ ms) k name = if bytes_eq m.name name then Some k else measure_from ms (k + 1) name

abbrev pub kind_named : Text → Option ℕ → Result AggKind SchemaCause
kind_named agg None = Err Name
kind_named agg (Some m) =
    if bytes_eq agg (codes "sum") then Ok (kinds.Sum m)
    else if bytes_eq agg (codes "least") then Ok (kinds.Least m)
    else if bytes_eq agg (codes "greatest") then Ok (kinds.Greatest m)
    else if bytes_eq agg (codes "mean") then Ok (kinds.Mean m)
    else Err Name

abbrev pub count_kind : List Text → Result AggKind SchemaCause
count_kind [] = Ok kinds.Count
count_kind (word ∷ words) = Err Words

-- `count` alone, or an aggregate and the name of a measure
unfoldable pub kind_of : List Measure → List Text → Result AggKind SchemaCause
kind_of measures [] = Err Words
kind_of measures (agg ∷ words) =
    if bytes_eq agg (codes "count") then count_kind words
    else one_word words >>= λ name. kind_named agg (measure_from measures 0 name)

abbrev pub new_kind : Layout → AggKind → Result AggKind SchemaCause
new_kind l kind = if list_any (λ k. same_kind k kind) l.indexes then Err Name else Ok kind

-- The lines by their first words, of which the others are handed in.
unfoldable pub id_line : Progress → List Text → Result Progress SchemaCause
id_line s words = do
  _ ← in_order (may_id s.stage)
  word ← one_word words
  name ← new_name s.layout word
  Ok (record { stage = stages.Id; layout = record s.layout { id = name } })

unfoldable pub dim_line : Progress → List Text → Result Progress SchemaCause
dim_line s words = do
  _ ← in_order (may_dim s.stage && nat_lt (length s.layout.dims) (max_dims s.layout.version))
  word ← one_word words
  name ← new_name s.layout word
  Ok (record { stage = stages.Dim; layout = record s.layout { dims = s.layout.dims ++ name ∷ [] } })

unfoldable pub measure_line : Progress → List Text → Result Progress SchemaCause
measure_line s words = do
  _ ← in_order (may_measure s.stage && nat_lt (length s.layout.measures) (max_measures s.layout.version))
  pair ← two_words words
  name ← new_name s.layout pair.0
  scale ← scale_in pair.1
  Ok (record {
    stage = stages.Measure;
    layout
        = record s.layout { measures = s.layout.measures ++ (record { name = name; scale = scale }) ∷ [] };
  })

unfoldable pub index_line : Progress → List Text → Result Progress SchemaCause
index_line s words = do
  _ ← in_order (may_index s.stage)
  kind ← kind_of s.layout.measures words
  fresh ← new_kind s.layout kind
  Ok (record { stage = stages.Index; layout = record s.layout { indexes = s.layout.indexes ++ fresh ∷ [] } })

unfoldable pub nodes_line : Progress → List Text → Result Progress SchemaCause
nodes_line s words = do
  _ ← in_order (may_index s.stage)
  word ← one_word words
  nodes ← limit_in MAX_NODES word
  Ok (record { stage = stages.Nodes; layout = record s.layout { nodes = nodes } })

unfoldable pub rows_line : Progress → List Text → Result Progress SchemaCause
rows_line s words = do
  _ ← in_order (may_rows s.stage)
  word ← one_word words
  rows ← limit_in MAX_ROWS word
  Ok (record { stage = stages.Rows; layout = record s.layout { rows = rows } })

unfoldable pub values_line : Progress → List Text → Result Progress SchemaCause
values_line s words = do
  _ ← in_order (may_values s.stage)
  word ← one_word words
  values ← limit_in MAX_CODES word
  Ok (record { stage = stages.Values; layout = record s.layout { values = values } })

-- the version that one word names
abbrev pub version_in : List Text → Option SchemaVersion
version_in (word ∷ []) =
    if bytes_eq word (version_word versions.One) then Some versions.One
    else if bytes_eq word (version_word versions.Two) then Some versions.Two
    else None
version_in words = None

abbrev pub with_version : Progress → Option SchemaVersion → Result Progress SchemaCause
with_version s None = Err Version
with_version s (Some version) = Ok (record { stage = stages.Qcube; layout = record s.layout { version = version } })

-- the first line that isn't passed over
unfoldable pub version_line : Progress → Text → List Text → Result Progress SchemaCause
version_line s word words = if bytes_eq word (codes "qcube") then with_version s (version_in words) else Err Version

unfoldable pub named_line : Progress → Text → List Text → Result Progress SchemaCause
named_line s word words =
    if bytes_eq word (codes "id") then id_line s words
    else if bytes_eq word (codes "dim") then dim_line s words
    else if bytes_eq word (codes "measure") then measure_line s words
    else if bytes_eq word (codes "index") then index_line s words
    else if bytes_eq word (codes "nodes") then nodes_line s words
    else if bytes_eq word (codes "rows") then rows_line s words
    else if bytes_eq word (codes "values") then values_line s words
    else Err Order

abbrev pub is_start : LastLine → Bool
is_start stages.Start = true
is_start stage = false

-- a line without words is passed over
abbrev pub line_of_words : Progress → List Text → Result Progress SchemaCause
line_of_words s [] = Ok s
line_of_words s (word ∷ words) = if is_start s.stage then version_line s word words else named_line s word words

unfoldable pub take_line : Progress → List ℕ → Result Progress SchemaCause
take_line s line = if is_comment line then Ok s else line_of_words s (words_of line)

abbrev pub and_on : ℕ → Result Progress SchemaCause → (Progress → Result Layout Fault) → Result Layout Fault
and_on n (Ok s) others = others s
and_on n (Err cause) others = Err (Line n cause)

-- the lines from that with the number n on
unfoldable pub read_lines : List (List ℕ) → ℕ → Progress → Result Layout Fault
read_lines [] n s = if may_end s.stage then Ok s.layout else Err (Line n End)
read_lines (line ∷ lines) n s = and_on n (take_line s line) (λ t. read_lines lines (n + 1) t)

-- nothing read yet, and what holds by default
abbrev pub start : Progress
start = record {
  stage = stages.Start;
  layout
      = record {
        version = versions.One;
        id = [];
        dims = [];
        measures = [];
        indexes = [];
        nodes = DEFAULT_NODES;
        rows
            = MAX_ROWS;
        values = MAX_CODES;
      };
}

-- The schema that a text spells, or its fault.
abbrev pub schema_in : List ℕ → Result Layout Fault
schema_in bytes = if is_utf8 bytes then read_lines (schema_lines bytes) 1 start else Err NotUtf8
