-- Texts of fields with nothing but commas between them.
use Rattle.std.specs.Prelude.{ℕ, Bool, not, ◌==◌, ◌||◌, List}
use Rattle.cube_defs.specs.Text.{Text}
use Rattle.text_lines.specs.Cuts.{cut_at}

-- a byte that neither quotes nor ends a line
abbrev pub is_plain_byte : ℕ → Bool
is_plain_byte b = not ((b == 34) || (b == 13) || (b == 10))

-- what stands between commas
abbrev pub pieces : List ℕ → List Text
pieces text = cut_at 44 text
