-- The command word of a line, and what follows it.
use Rattle.std.specs.Prelude.{ℕ, Bool, ◌==◌, ◌||◌, ◌&&◌, List, codes}
use Rattle.std.specs.List.{before_first, after_first}
use Rattle.std.specs.Str.{bytes_eq, is_utf8}

-- what ends a command word
abbrev pub is_space : ℕ → Bool
is_space b = b == 32

-- the command word runs to the first space or the end of the line
abbrev pub word_of : List ℕ → List ℕ
word_of line = before_first is_space line

-- the rest is what follows that one space
abbrev pub rest_of : List ℕ → List ℕ
rest_of line = after_first is_space line

-- the line that is a command by itself
abbrev pub stats_line : List ℕ
stats_line = codes "stats"

-- the words of the queries that name something after them
abbrev pub names_query : List ℕ → Bool
names_query word =
    bytes_eq word (codes "point") || bytes_eq word (codes "range") || bytes_eq word (codes "bounds")
    || bytes_eq word (codes "iceberg")
    || bytes_eq word (codes "parents") || bytes_eq word (codes "children") || bytes_eq word (codes "rollup")

-- the words of the commands that name something after them
abbrev pub names_more : List ℕ → Bool
names_more word =
    bytes_eq word (codes "load") || bytes_eq word (codes "apply") || bytes_eq word (codes "try")
    || bytes_eq word (codes "widen")
    || bytes_eq word (codes "pin") || bytes_eq word (codes "unpin") || bytes_eq word (codes "at") || names_query word

-- Whether a line may want memory: it is UTF-8 and begins with such a word. The line `stats` wants none.
abbrev pub may_want_memory : List ℕ → Bool
may_want_memory line = is_utf8 line && names_more (word_of line)
