-- The lines of a schema.
use Rattle.std.specs.Prelude.{ℕ, List, map}
use Rattle.text_lines.specs.Lines.{lines_of, without_cr, without_mark}

-- the lines of a schema, the first of which has the number 1
abbrev pub schema_lines : List ℕ → List (List ℕ)
schema_lines bs = map without_cr (lines_of (without_mark bs))
