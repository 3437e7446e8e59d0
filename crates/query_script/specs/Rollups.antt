-- The words of a roll-up: an aggregate, its measure but for `count`, `>=` or `<=`, a value, and then the record of a
-- cell.
use Rattle.std.specs.Prelude.{⊤, ℕ, ◌+◌, ◌≤◌, List, [], ◌∷◌, Option, Some, None, codes, Result, Ok, Err, length, if◌then◌else◌}
use Rattle.std.specs.Str.{bytes_eq}
use Rattle.cube_defs.specs.Text.{Text}
use Rattle.cube_defs.specs.Rows.{Fraction}
use Rattle.cube_defs.specs.Answers.{AggKind, Bound, Count}
use Rattle.aggregates.specs.Numbers.{fraction_written}
use Rattle.cell_core.specs.declared.fields.Field as asked
use Rattle.qc_schema.specs.Grammar.{measure_from}
use Rattle.qc_schema.specs.Schema.{Layout}
use Rattle.query_script.specs.Faults.{LineFault, Command, Field, Number, Utf8}
use Rattle.query_script.specs.Icebergs.{bound_named, measure_kind}
use Rattle.query_script.specs.Lines.{rest_of, word_of}
use Rattle.query_script.specs.Queries.{Query, Rollup}
use Rattle.query_script.specs.Records.{record_in}
use Rattle.query_script.specs.declared.record.Shape.TheVariants as shapes

-- a fault of a record that stands after k words
abbrev pub after_words : ℕ → LineFault → LineFault
after_words k Utf8 = Utf8
after_words k Command = Command
after_words k (Field j) = Field (k + j)
after_words k Number = Number

-- a record's fault is at a place that is low
abbrev pub IsLow : LineFault → Type 0
IsLow Utf8 = ⊤
IsLow Command = ⊤
IsLow (Field j) = j ≤ 100
IsLow Number = ⊤

-- the value is looked at once the record is read
abbrev pub with_value : AggKind → Bound → List asked.Field → Option Fraction → Result Query LineFault
with_value kind bound fields None = Err Number
with_value kind bound fields (Some value) = Ok (Rollup kind bound value fields)

abbrev pub with_record : AggKind → Bound → ℕ → Text → Result (List asked.Field) LineFault → Result Query LineFault
with_record kind bound k word (Err fault) = Err (after_words k fault)
with_record kind bound k word (Ok fields) = with_value kind bound fields (fraction_written word)

-- the value, at the place k, and the record after it, of so many dimensions; a word without bytes is missing
abbrev pub value_at : ℕ → AggKind → Bound → ℕ → Text → List ℕ → Result Query LineFault
value_at dims kind bound k [] rest = Err (Field k)
value_at dims kind bound k (b ∷ bs) rest = with_record kind bound k (b ∷ bs) (record_in shapes.Cell dims rest)

abbrev pub with_bound : ℕ → AggKind → ℕ → List ℕ → Option Bound → Result Query LineFault
with_bound dims kind k rest None = Err (Field k)
with_bound dims kind k rest (Some bound) = value_at dims kind bound (k + 1) (word_of rest) (rest_of rest)

-- the bound, at the place k, and what stands after it
abbrev pub bound_at : ℕ → AggKind → ℕ → List ℕ → Result Query LineFault
bound_at dims kind k rest = with_bound dims kind k (rest_of rest) (bound_named (word_of rest))

abbrev pub with_measure : ℕ → (ℕ → AggKind) → List ℕ → Option ℕ → Result Query LineFault
with_measure dims make rest None = Err (Field 2)
with_measure dims make rest (Some measure) = bound_at dims (make measure) 3 rest

abbrev pub with_aggregate : Layout → List ℕ → Option (ℕ → AggKind) → Result Query LineFault
with_aggregate layout rest None = Err (Field 1)
with_aggregate layout rest (Some make)
    = with_measure (length layout.dims) make (rest_of rest) (measure_from layout.measures 0 (word_of rest))

-- what a line asks after the word `rollup`: each word runs to the first space or to the end
abbrev pub rollup_in : Layout → List ℕ → Result Query LineFault
rollup_in layout rest =
    if bytes_eq (word_of rest) (codes "count") then bound_at (length layout.dims) Count 2 (rest_of rest)
    else with_aggregate layout (rest_of rest) (measure_kind (word_of rest))
