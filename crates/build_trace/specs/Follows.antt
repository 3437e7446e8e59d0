-- A map that has just what some acts did.
use Rattle.std.specs.Prelude.{◌≡◌, ℕ, Option, Some, List}
use Rattle.std.specs.Option.{option_map}
use Rattle.cube_defs.specs.Cell.{Cell}
use Rattle.cube_defs.specs.Tree.{Node, renamed}
use Rattle.cube_laws.specs.Lists.{Among}
use Rattle.build_trace.specs.Trace.{Act, Act.{Add}, read}

-- the record of each number, if it has one
abbrev pub RecordLookup : Type 0
RecordLookup = ℕ → Option (Node ℕ ℕ)

abbrev pub cell_by : RecordLookup → ℕ → Option (Cell ℕ)
cell_by look k = option_map (λ n. n.cell) (look k)

-- each number's cell was added and has the record that is read off the acts; each added cell has one number
pub record Follows (es : List Act) (look : RecordLookup) : Type 0 where
  pub each : (k : ℕ) (n : Node ℕ ℕ) → look k ≡ Some n → Among (Add n.cell) es
      × (renamed (cell_by look) n ≡ renamed (λ c. Some c) (read es n.cell))
  pub once : (k l : ℕ) (c : Cell ℕ) → cell_by look k ≡ Some c → cell_by look l ≡ Some c → k ≡ l
  pub all : (c : Cell ℕ) → Among (Add c) es → (k : ℕ) × (cell_by look k ≡ Some c)
