-- The bytes of replies.
use Rattle.std.specs.Prelude.{ℕ, Bool, false, ◌==◌, ◌||◌, Option, Some, None, List, [], ◌∷◌, ◌++◌, length, map, codes, decimal, nat_lt}
use Rattle.std.specs.Prelude.{slice_index_or, if◌then◌else◌}
use Rattle.std.specs.List.{flat_map, join_with_byte, list_any}
use Rattle.std.specs.Str.{bytes_eq}
use Rattle.cube_defs.specs.Text.{Text}
use Rattle.cube_defs.specs.Cell.{Cell}
use Rattle.cube_defs.specs.Rows.{Agg, Part, mean_of}
use Rattle.cube_defs.specs.Answers.{ClassHit, Hit}
use Rattle.aggregates.specs.Texts.{amount_text, ratio_text}
use Rattle.csv_load.specs.Faults as files
use Rattle.qc_schema.specs.Schema.{Layout, Measure}
use Rattle.query_script.specs.Faults as lines
use Rattle.query_script.specs.Fields.{is_several}
use Rattle.range_query.specs.declared.TheConstants.{MAX_RANGE_CELLS}
use Rattle.warehouse.specs.Batch as batches
use Rattle.warehouse.specs.Widening as widenings

-- fields joined by commas, ended by LF
abbrev pub record_text : List Text → List ℕ
record_text fields = join_with_byte 44 fields ++ 10 ∷ []

-- fields after others, each with its comma
abbrev pub fields_text : List Text → List ℕ
fields_text fields = flat_map (λ field. 44 ∷ field) fields

-- a word, and a number after it
abbrev pub numbered : Text → ℕ → List Text
numbered word k = word ∷ decimal k ∷ []

-- the code of a refusal, and what it says of it: for what the line is
abbrev pub line_texts : lines.LineFault → List Text
line_texts lines.Utf8 = codes "utf8" ∷ []
line_texts lines.Command = codes "command" ∷ []
line_texts (lines.Field k) = numbered (codes "field") k
line_texts lines.Number = codes "number" ∷ []

-- for what the file is
abbrev pub fault_texts : files.Fault → List Text
fault_texts files.Header = codes "header" ∷ []
fault_texts (files.Fields k) = numbered (codes "fields") k
fault_texts (files.Utf8 k) = numbered (codes "utf8") k
fault_texts (files.Op k) = numbered (codes "op") k
fault_texts (files.Id k) = numbered (codes "id") k
fault_texts (files.Amount k) = numbered (codes "amount") k
fault_texts (files.Value k) = numbered (codes "value") k

-- for what its changes would do
abbrev pub batch_texts : Layout → batches.Refusal → List Text
batch_texts schema batches.NotEmpty = codes "not-empty" ∷ []
batch_texts schema (batches.File fault) = fault_texts fault
batch_texts schema (batches.Twice k) = numbered (codes "twice") k
batch_texts schema (batches.Missing k) = numbered (codes "missing") k
batch_texts schema (batches.Present k) = numbered (codes "present") k
batch_texts schema batches.RowsFull = codes "rows" ∷ []
batch_texts schema (batches.ValuesFull dim) = codes "values" ∷ slice_index_or schema.dims dim [] ∷ []
batch_texts schema batches.NodesFull = codes "nodes" ∷ []

-- for the tree that a dimension more would make
abbrev pub widen_texts : widenings.WidenRefusal → List Text
widen_texts widenings.DimsFull = codes "dims" ∷ []
widen_texts widenings.NodesFull = codes "nodes" ∷ []

-- for a name that is pinned, or that would be one too many
abbrev pub name_taken_texts : List Text
name_taken_texts = codes "name-taken" ∷ []

abbrev pub all_pinned_texts : List Text
all_pinned_texts = codes "all-pinned" ∷ []

-- for a name that isn't pinned
abbrev pub not_pinned_texts : List Text
not_pinned_texts = codes "not-pinned" ∷ []

-- for a dimension more while a name is pinned
abbrev pub pinned_texts : List Text
pinned_texts = codes "pinned" ∷ []

-- for its size
abbrev pub size_texts : List Text
size_texts = codes "size" ∷ []

-- for the cells of its box that cover a row: they are more than are told
abbrev pub many_texts : List Text
many_texts = codes "too-many-cells" ∷ []

abbrev pub refused_text : ℕ → List Text → List ℕ
refused_text line refusal = record_text (codes "refused" ∷ decimal line ∷ refusal)

abbrev pub applied_text : ℕ → ℕ → ℕ → List ℕ
applied_text line records classes
    = record_text (codes "applied" ∷ decimal line ∷ decimal records ∷ decimal classes ∷ [])

-- a dimension came: how many dimensions and classes there are after it
abbrev pub widened_text : ℕ → ℕ → ℕ → List ℕ
widened_text line dims classes = record_text (codes "widened" ∷ decimal line ∷ decimal dims ∷ decimal classes ∷ [])

-- the present rows, with so many classes, got a name
abbrev pub pinned_text : ℕ → Text → ℕ → List ℕ
pinned_text line name classes = record_text (codes "pinned" ∷ decimal line ∷ name ∷ decimal classes ∷ [])

-- a name went
abbrev pub unpinned_text : ℕ → Text → List ℕ
unpinned_text line name = record_text (codes "unpinned" ∷ decimal line ∷ name ∷ [])

-- how many rows, classes and nodes there are, how many edges lead to a node with one value more, and how many others
abbrev pub stats_text : ℕ → ℕ → ℕ → ℕ → ℕ → ℕ → List ℕ
stats_text line rows classes nodes tree_edges links =
    record_text (codes "stats" ∷ decimal line ∷ decimal rows ∷ decimal classes ∷ decimal nodes ∷ decimal tree_edges
    ∷ decimal links ∷ [])

abbrev pub none_text : ℕ → List ℕ
none_text line = record_text (codes "none" ∷ decimal line ∷ [])

abbrev pub memory_text : ℕ → List ℕ
memory_text line = record_text (codes "memory" ∷ decimal line ∷ [])

-- a quote stands twice
abbrev pub doubled : ℕ → List ℕ
doubled b = if b == 34 then 34 ∷ 34 ∷ [] else b ∷ []

-- comma, quote, CR and LF
abbrev pub wants_quotes : ℕ → Bool
wants_quotes b = (b == 44) || (b == 34) || (b == 13) || (b == 10)

-- a field that holds such a byte stands in quotes; of the fields of a reply only values may
abbrev pub quoted : Text → Text
quoted field = if list_any wants_quotes field then 34 ∷ flat_map doubled field ++ 34 ∷ [] else field

-- a value that would be read as Any, as several values, or without its first byte
abbrev pub begins_with_equals : Text → Bool
begins_with_equals [] = false
begins_with_equals (b ∷ bs) = b == 61

abbrev pub is_marked : Text → Bool
is_marked value = bytes_eq value (codes "*") || is_several value || begins_with_equals value

-- a value as it is asked: such a one has `=` before it
abbrev pub value_text : Text → Text
value_text value = if is_marked value then 61 ∷ value else value

-- Any is written as a star
abbrev pub entry_text : Option Text → Text
entry_text None = codes "*"
entry_text (Some value) = quoted (value_text value)

-- sum, least, greatest and mean of a measure of this scale
abbrev pub part_texts : ℕ → ℕ → Part → List Text
part_texts count scale part =
    amount_text scale part.sum ∷ amount_text scale part.least ∷ amount_text scale part.greatest
    ∷ ratio_text (mean_of part count scale) ∷ []

-- the same of each measure
abbrev pub parts_texts : ℕ → List Measure → List Part → List Text
parts_texts count [] parts = []
parts_texts count (measure ∷ measures) [] = []
parts_texts count (measure ∷ measures) (part ∷ parts)
    = part_texts count measure.scale part ++ parts_texts count measures parts

-- the count, and then the four numbers of each measure
abbrev pub agg_texts : List Measure → Agg → List Text
agg_texts measures agg = decimal agg.count ∷ parts_texts agg.count measures agg.parts

-- the record of a cell: a word, the line, the cell and what is told of it
abbrev pub cell_text : Text → ℕ → Cell Text → List Text → List ℕ
cell_text word line cell more = record_text (word ∷ decimal line ∷ map entry_text cell ++ more)

abbrev pub point_text : ℕ → Cell Text → List Measure → Agg → List ℕ
point_text line cell measures agg = cell_text (codes "point") line cell (agg_texts measures agg)

abbrev pub lower_text : ℕ → Cell Text → List ℕ
lower_text line cell = cell_text (codes "lower") line cell []

-- a class: its upper bound with what its rows come to, and then its lower bounds
abbrev pub class_text : ℕ → List Measure → ClassHit Text → List ℕ
class_text line measures class = cell_text (codes "class") line class.upper (agg_texts measures class.agg)
    ++ flat_map (lower_text line) class.lowers

-- the last record of a reply with so many classes
abbrev pub end_text : ℕ → ℕ → List ℕ
end_text line count = record_text (codes "end" ∷ decimal line ∷ decimal count ∷ [])

abbrev pub bounds_text : ℕ → List Measure → ClassHit Text → List ℕ
bounds_text line measures class = class_text line measures class ++ end_text line 1

-- a cell of a box, with what its rows come to
abbrev pub hit_text : ℕ → List Measure → Hit Text → List ℕ
hit_text line measures hit = cell_text (codes "cell") line hit.cell (agg_texts measures hit.agg)

abbrev pub range_text : ℕ → List Measure → List (Hit Text) → List ℕ
range_text line measures hits = flat_map (hit_text line measures) hits ++ end_text line (length hits)

-- the reply to `iceberg`: its classes
abbrev pub iceberg_text : ℕ → List Measure → List (ClassHit Text) → List ℕ
iceberg_text line measures classes = flat_map (class_text line measures) classes ++ end_text line (length classes)

-- the reply to a point, where the asked cell covers rows that come to this, or none
abbrev pub point_reply : Layout → ℕ → Cell Text → Option Agg → List ℕ
point_reply schema line cell None = none_text line
point_reply schema line cell (Some agg) = point_text line cell schema.measures agg

-- the reply to `bounds`, where the asked cell has this class, or none
abbrev pub bounds_reply : Layout → ℕ → Option (ClassHit Text) → List ℕ
bounds_reply schema line None = none_text line
bounds_reply schema line (Some class) = bounds_text line schema.measures class

-- the reply to `range`, where these cells of the box cover rows, if they are not too many
abbrev pub range_reply : Layout → ℕ → List (Hit Text) → List ℕ
range_reply schema line hits = if nat_lt MAX_RANGE_CELLS (length hits) then refused_text line many_texts
    else range_text line schema.measures hits
