-- The one canonical text of a schema.
use Rattle.std.specs.Prelude.{ℕ, List, [], ◌∷◌, ◌++◌, map, codes, decimal, slice_index_or}
use Rattle.std.specs.List.{flat_map}
use Rattle.cube_defs.specs.Text.{Text}
use Rattle.aggregates.specs.declared.kind.AggKind.{AggKind}
use Rattle.aggregates.specs.declared.kind.AggKind.TheVariants as kinds
use Rattle.qc_schema.specs.Schema.{Layout, Measure, no_measure, version_word}

-- words with one space between them, and LF
abbrev pub line_text : List Text → List ℕ
line_text [] = 10 ∷ []
line_text (word ∷ []) = word ++ 10 ∷ []
line_text (word ∷ next ∷ words) = word ++ 32 ∷ line_text (next ∷ words)

abbrev pub dim_words : Text → List Text
dim_words name = codes "dim" ∷ name ∷ []

abbrev pub measure_words : Measure → List Text
measure_words m = codes "measure" ∷ m.name ∷ decimal m.scale ∷ []

abbrev pub name_at : List Measure → ℕ → Text
name_at measures m = (slice_index_or measures m no_measure).name

abbrev pub index_words : List Measure → AggKind → List Text
index_words measures kinds.Count = codes "index" ∷ codes "count" ∷ []
index_words measures (kinds.Sum m) = codes "index" ∷ codes "sum" ∷ name_at measures m ∷ []
index_words measures (kinds.Least m) = codes "index" ∷ codes "least" ∷ name_at measures m ∷ []
index_words measures (kinds.Greatest m) = codes "index" ∷ codes "greatest" ∷ name_at measures m ∷ []
index_words measures (kinds.Mean m) = codes "index" ∷ codes "mean" ∷ name_at measures m ∷ []

abbrev pub limit_words : Layout → List (List Text)
limit_words l = (codes "nodes" ∷ decimal l.nodes ∷ []) ∷ (codes "rows" ∷ decimal l.rows ∷ [])
    ∷ (codes "values" ∷ decimal l.values ∷ []) ∷ []

-- the words of each line
abbrev pub layout_words : Layout → List (List Text)
layout_words l = (codes "qcube" ∷ version_word l.version ∷ []) ∷ (codes "id" ∷ l.id ∷ [])
    ∷ (map dim_words l.dims
    ++ (map measure_words l.measures ++ (map (index_words l.measures) l.indexes ++ limit_words l)))

abbrev pub layout_text : Layout → List ℕ
layout_text l = flat_map line_text (layout_words l)
