-- How many rows a tree is of.
use Rattle.std.specs.Prelude.{◌≡◌, ℕ, ◌≤◌, length}
use Rattle.tree_search.specs.Found.{IsTreeOf, TreeRows}
use Rattle.qc_arena.specs.Map.{Arena}

-- the arena has the canonical tree of at most so many rows of one measure
abbrev pub HasRows : ℕ → Arena → Type 0
HasRows many a = (s : TreeRows) × IsTreeOf a.width a.now s × (s.measures ≡ 1) × (length s.rows ≤ many)
