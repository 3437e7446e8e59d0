-- The lines of a script.
use Rattle.std.specs.Prelude.{ℕ, Bool, true, List, [], ◌∷◌, ◌==◌, ◌||◌, ◌&&◌, codes, map}
use Rattle.std.specs.List.{list_any}
use Rattle.std.specs.Str.{bytes_eq}
use Rattle.query_script.specs.Lines.{is_space, word_of}
pub use Rattle.text_lines.specs.Lines.{lines_of, mark, with_first, without_cr, without_mark}

-- the lines of a script, numbered from 1
abbrev pub script_lines : List ℕ → List (List ℕ)
script_lines bs = map without_cr (lines_of (without_mark bs))

-- no bytes, or a comment: such a line has no reply
abbrev pub is_passed : List ℕ → Bool
is_passed [] = true
is_passed (b ∷ bs) = b == 35

-- the words of the commands that name a file
abbrev pub is_file_word : List ℕ → Bool
is_file_word word = bytes_eq word (codes "load") || bytes_eq word (codes "apply") || bytes_eq word (codes "try")

-- the command word of a line is one of them, and a space ends it
abbrev pub has_file_word : List ℕ → Bool
has_file_word line = is_file_word (word_of line) && list_any is_space line
