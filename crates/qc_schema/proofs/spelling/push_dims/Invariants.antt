use Rattle.std.proofs.Common.{◌≡◌, ◌++◌, take, map}
use Rattle.std.specs.List.{flat_map}
use Rattle.qc_schema.specs.Spelling.{dim_words, line_text}
use Rattle.qc_schema.proofs.spelling.push_dims.Given as goal

abbrev pub invariant-loop-dim : goal.invariant-loop-dim
invariant-loop-dim l = l.text.items ≡ l.initial.text.items
    ++ flat_map line_text (map dim_words (take l.dim l.schema.dims))
