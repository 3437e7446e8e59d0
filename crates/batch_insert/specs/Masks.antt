-- Cells that generalize a tuple, by their masks.
use Rattle.std.specs.Prelude.{ℕ, ◌%◌, ◌/◌, ◌≡◌, Bool, None, Some, [], ◌∷◌, nat_eq, if◌then◌else◌}
use Rattle.cube_defs.specs.Cell.{Cell, leq, mask, meet}
use Rattle.cube_defs.specs.Tree.{Tree, cell_at}

-- t's values in the dimensions of the mask m
abbrev pub part : Cell ℕ → ℕ → Cell ℕ
part [] m = []
part (e ∷ t) m = (if nat_eq (m % 2) 1 then e else None) ∷ part t (m / 2)

-- the node k and t share the values of the mask m, and own says whether the node generalizes t
pub record Shares (t : Cell ℕ) (tree : Tree ℕ) (m : ℕ) (own : Bool) (k : ℕ) : Type 0 where
  pub cell : Cell ℕ
  pub at : cell_at tree k ≡ Some cell
  pub common : mask (meet nat_eq cell t) ≡ m
  pub below : leq nat_eq cell t ≡ own
