-- The parents of a class, told by numbers.
use Rattle.std.specs.Prelude.{ℕ, Bool, not, ◌&&◌, ◌||◌, List}
use Rattle.std.specs.List.{list_all, range_with_len}
use Rattle.cube_defs.specs.Cell.{Cell}
use Rattle.tree_search.specs.Found.{TreeRows}
use Rattle.cells_below.specs.Closed.{closes}
use Rattle.cells_below.specs.Marks.{is_marked}
use Rattle.cells_below.specs.Numbers.{has_bit, turned}
use Rattle.cube_laws.specs.Parts.{value_count}

-- the cell of the number has another closure than u, and with one bit more it has u
abbrev pub joins : TreeRows → Cell ℕ → ℕ → Bool
joins source u m = not (closes source u m) && list_all (λ k. has_bit m k || closes source u (turned m k))
    (range_with_len 0 (value_count u))

-- of numbers with d bits: with one bit more each is marked
abbrev pub is_most : List Bool → ℕ → ℕ → Bool
is_most marks d m = list_all (λ k. has_bit m k || is_marked marks (turned m k)) (range_with_len 0 d)
