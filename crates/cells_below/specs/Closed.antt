-- The numbers of the cells with one closure.
use Rattle.std.specs.Prelude.{◌≡◌, ℕ, ◌<◌, Bool, true, false, None, List, drop, length, slice_index_or}
use Rattle.std.specs.Ordering.{nat_cmp, eq_by_cmp}
use Rattle.cube_defs.specs.Cell.{Cell}
use Rattle.cube_defs.specs.Rows.{has_closure, is_lower_bound}
use Rattle.cube_defs.specs.Tree.{Tree}
use Rattle.tree_laws.specs.Walk.{walk}
use Rattle.tree_search.specs.Found.{IsNumberOfCell, TreeRows, closure_in}
use Rattle.cells_below.specs.Numbers.{cell_of_number, has_bit}
use Rattle.cells_below.specs.Marks.{is_marked}

-- whether the cell's closure is u
abbrev pub has_closure_in : TreeRows → Cell ℕ → Cell ℕ → Bool
has_closure_in source u c = has_closure (eq_by_cmp nat_cmp) source.rows c u

-- whether the cell of the number has the closure u
abbrev pub closes : TreeRows → Cell ℕ → ℕ → Bool
closes source u m = has_closure_in source u (cell_of_number u m)

-- whether the cell of the number is a lower bound of u
abbrev pub bounds : TreeRows → Cell ℕ → ℕ → Bool
bounds source u m = is_lower_bound (eq_by_cmp nat_cmp) source.rows u (cell_of_number u m)

-- of the numbers less than n, just those are marked whose cells have the closure u
abbrev pub IsMarkedBefore : TreeRows → Cell ℕ → List Bool → ℕ → Type 0
IsMarkedBefore source u marks n = (m : ℕ) → m < n → is_marked marks m ≡ closes source u m

-- no number that misses one of the bits has a cell with the closure u
abbrev pub AreNeeded : TreeRows → Cell ℕ → ℕ → Type 0
AreNeeded source u needed = (k m : ℕ) → has_bit needed k ≡ true → has_bit m k ≡ false → closes source u m ≡ false

-- the searches for all cells that begin as u does, before dimension i, go on from the node k
abbrev pub IsReached : Tree ℕ → TreeRows → Cell ℕ → ℕ → ℕ → Type 0
IsReached tree source u k i = (c : Cell ℕ) → length c ≡ length u
    → ((j : ℕ) → j < i → slice_index_or c j None ≡ slice_index_or u j None)
    → IsNumberOfCell tree (walk (eq_by_cmp nat_cmp) tree (drop i c) k i) (closure_in source c)
