-- The cell of a node as a line of six numbers.
use Rattle.std.specs.Prelude.{ℕ, zero, suc, ◌≡◌, ◌<◌, Option, Some, None, IfSome, List, [], ◌∷◌, slice_get}
use Rattle.std.specs.FinMap as map
use Rattle.std.specs.Option.{option_map}
use Rattle.cube_defs.specs.Cell.{Cell}
use Rattle.cube_defs.specs.Tree.{Tree, cell_at}
use Rattle.qc_arena.specs.Map.{Known}
use Rattle.tree_records.specs.declared.lines.TheConstants.{ANY}

-- the value of an entry, and ANY where there is none
abbrev pub entry_of : Option ℕ → ℕ
entry_of None = ANY
entry_of (Some v) = v

-- the entries of the first so many dimensions
abbrev pub entries_of : ℕ → Cell ℕ → List ℕ
entries_of zero c = []
entries_of (suc n) [] = ANY ∷ entries_of n []
entries_of (suc n) (e ∷ c) = entry_of e ∷ entries_of n c

abbrev pub line_of : Cell ℕ → List ℕ
line_of c = entries_of 6 c

-- the line of the cell of the node with this number
abbrev pub line_at : Tree ℕ → ℕ → Option (List ℕ)
line_at tree k = option_map line_of (cell_at tree k)

-- each value is smaller than ANY, and in one of the first six dimensions
abbrev pub IsSmall : Cell ℕ → Type 0
IsSmall c = (j v : ℕ) → slice_get c j ≡ Some (Some v) → (j < 6) × (v < ANY)

-- a line that is read of a node is that of its cell, and each small cell is read
pub record IsReadAs (tree : Tree ℕ) (k : ℕ) (read : Option (List ℕ)) : Type 0 where
  pub only : IfSome read (λ line. line_at tree k ≡ Some line)
  pub small : (n : Known) → map.get tree k ≡ Some n → IsSmall n.cell → read ≡ Some (line_of n.cell)
