use Rattle.std.proofs.Common.{◌≡◌, ◌++◌, take, map}
use Rattle.std.specs.List.{flat_map}
use Rattle.qc_schema.specs.Spelling.{index_words, line_text}
use Rattle.qc_schema.proofs.spelling.push_indexes.Given as goal

abbrev pub invariant-loop-kind : goal.invariant-loop-kind
invariant-loop-kind l =
    l.text.items ≡ l.initial.text.items
    ++ flat_map line_text (map (index_words l.schema.measures) (take l.kind-index l.schema.indexes))
