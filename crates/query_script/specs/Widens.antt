-- What widens a cube: the name of a dimension, and after the space that ends it the value of each row there.
use Rattle.std.specs.Prelude.{ℕ, Bool, ◌&&◌, List, Result, Ok, Err, length, nat_le, nat_lt, if◌then◌else◌}
use Rattle.cube_defs.specs.declared.limits.TheConstants.{MAX_TEXT}
use Rattle.qc_schema.specs.Grammar.{is_new_name}
use Rattle.qc_schema.specs.Schema.{Layout}
use Rattle.query_script.specs.Faults.{LineFault, Field}
use Rattle.query_script.specs.Lines.{rest_of, word_of}
use Rattle.query_script.specs.Questions.{Question, Widen}

-- a value that may stand after the name, where a space ends it: it is no longer than a text may be
abbrev pub has_value : List ℕ → Bool
has_value rest = nat_lt (length (word_of rest)) (length rest) && nat_le (length (rest_of rest)) MAX_TEXT

-- what a line asks after the word `widen`: the name is a new one, and all after that one space is the value
abbrev pub widen_in : Layout → List ℕ → Result Question LineFault
widen_in layout rest =
    if is_new_name layout (word_of rest)
    then (if has_value rest then Ok (Widen (word_of rest) (rest_of rest)) else Err (Field 2))
    else Err (Field 1)
