use Rattle.std.proofs.Common.{◌≡◌, ◌++◌, take, map}
use Rattle.std.specs.List.{flat_map}
use Rattle.qc_schema.specs.Spelling.{measure_words, line_text}
use Rattle.qc_schema.proofs.spelling.push_measures.Given as goal

abbrev pub invariant-loop-k : goal.invariant-loop-k
invariant-loop-k l = l.text.items ≡ l.initial.text.items
    ++ flat_map line_text (map measure_words (take l.k l.schema.measures))
