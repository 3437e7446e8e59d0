-- The words of an iceberg: an aggregate, its measure but for `count`, `>=` or `<=`, and a value.
use Rattle.std.specs.Prelude.{ℕ, ◌+◌, List, [], ◌∷◌, Option, Some, None, codes, Result, Ok, Err, if◌then◌else◌}
use Rattle.std.specs.Str.{bytes_eq}
use Rattle.cube_defs.specs.Text.{Text}
use Rattle.cube_defs.specs.Rows.{Fraction}
use Rattle.cube_defs.specs.Answers.{AggKind, AtLeast, AtMost, Bound, Count, Greatest, Least, Mean, Sum}
use Rattle.aggregates.specs.Numbers.{fraction_written}
use Rattle.text_lines.specs.Cuts.{words_of}
use Rattle.qc_schema.specs.Grammar.{measure_from}
use Rattle.qc_schema.specs.Schema.{Layout, Measure}
use Rattle.query_script.specs.Faults.{LineFault, Field, Number}
use Rattle.query_script.specs.Queries.{Iceberg, Query}

-- the aggregate of a measure that a word names
abbrev pub measure_kind : Text → Option (ℕ → AggKind)
measure_kind word =
    if bytes_eq word (codes "sum") then Some Sum
    else if bytes_eq word (codes "least") then Some Least
    else if bytes_eq word (codes "greatest") then Some Greatest
    else if bytes_eq word (codes "mean") then Some Mean
    else None

abbrev pub bound_named : Text → Option Bound
bound_named word = if bytes_eq word (codes ">=") then Some AtLeast else if bytes_eq word (codes "<=")
    then Some AtMost else None

abbrev pub with_value : AggKind → Bound → Option Fraction → Result Query LineFault
with_value kind bound None = Err Number
with_value kind bound (Some value) = Ok (Iceberg kind bound value)

-- the value, at the place k, after which no word may stand
abbrev pub value_at : AggKind → Bound → ℕ → List Text → Result Query LineFault
value_at kind bound k [] = Err (Field k)
value_at kind bound k (word ∷ []) = with_value kind bound (fraction_written word)
value_at kind bound k (word ∷ more ∷ words) = Err (Field (k + 1))

abbrev pub with_bound : AggKind → ℕ → List Text → Option Bound → Result Query LineFault
with_bound kind k words None = Err (Field k)
with_bound kind k words (Some bound) = value_at kind bound (k + 1) words

-- the bound, at the place k, and the value after it
abbrev pub bound_at : AggKind → ℕ → List Text → Result Query LineFault
bound_at kind k [] = Err (Field k)
bound_at kind k (word ∷ words) = with_bound kind k words (bound_named word)

abbrev pub with_measure : (ℕ → AggKind) → List Text → Option ℕ → Result Query LineFault
with_measure make words None = Err (Field 2)
with_measure make words (Some measure) = bound_at (make measure) 3 words

abbrev pub with_aggregate : List Measure → List Text → Option (ℕ → AggKind) → Result Query LineFault
with_aggregate measures words None = Err (Field 1)
with_aggregate measures [] (Some make) = Err (Field 2)
with_aggregate measures (name ∷ words) (Some make) = with_measure make words (measure_from measures 0 name)

-- what some words ask, or the first place at which a word is missing, isn't allowed or is one too many; only then is
-- the value looked at
abbrev pub iceberg_of : List Measure → List Text → Result Query LineFault
iceberg_of measures [] = Err (Field 1)
iceberg_of measures (word ∷ words) = if bytes_eq word (codes "count") then bound_at Count 2 words
    else with_aggregate measures words (measure_kind word)

-- what a line asks after the word `iceberg`
abbrev pub iceberg_in : Layout → List ℕ → Result Query LineFault
iceberg_in layout rest = iceberg_of layout.measures (words_of rest)
