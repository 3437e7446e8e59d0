-- What a repair leaves as it is, and the numbers that it knows.
use Rattle.std.specs.Prelude.{All, is_some, ◌≡◌, ◌<◌, ℕ, true, false, Option, Some, IsSome, length, nat_eq, List, [], ◌∷◌}
use Rattle.std.specs.FinMap as map
use Rattle.cube_defs.specs.Cell.{Cell, leq, mask}
use Rattle.cube_defs.specs.Tree.{Edge, cell_at}
use Rattle.cube_laws.specs.Lists.{Among}
use Rattle.qc_arena.specs.Edges.{put_edge}
use Rattle.cell_core.specs.Entry.{IsCode}
use Rattle.cell_core.specs.declared.cell.NodeNo.{NodeNo}
use Rattle.qc_arena.specs.Map.{Arena, CanChange, IsPlace, Known, frame, is_open, is_touched, new_record}

-- each edge has a dimension that there is, and leads to a node
abbrev pub IsClosed : Arena → Type 0
IsClosed a = (k : ℕ) (n : Known) (x : Edge ℕ ℕ) → map.get a.now k ≡ Some n → Among x n.edges
    → IsSome (map.get a.now x.target) × (x.dim < a.width)

-- from the one arena to the other each node keeps its number, and its whole record where it doesn't generalize
-- t; each node that is touched by then and wasn't before generalizes t
pub record KeepsNodes (t : Cell ℕ) (before after : Arena) : Type 0 where
  pub cells : (k : ℕ) (c : Cell ℕ) → cell_at before.now k ≡ Some c → cell_at after.now k ≡ Some c
  pub apart : (k : ℕ) (n : Known) → map.get before.now k ≡ Some n → leq nat_eq n.cell t ≡ false
      → map.get after.now k ≡ Some n
  pub fresh : (k : ℕ) (n : Known) → map.get after.now k ≡ Some n → leq nat_eq n.cell t ≡ false
      → map.get before.now k ≡ Some n
  pub come : (k : ℕ) → is_touched after k ≡ true → is_touched before k ≡ false → (c : Cell ℕ)
      × (cell_at after.now k ≡ Some c) × (leq nat_eq c t ≡ true)
  pub touched : (k : ℕ) → is_touched before k ≡ true → is_touched after k ≡ true
  pub closed : IsClosed before → IsClosed after
  pub frame : frame after ≡ frame before
  pub opened : is_open after ≡ true

-- k is the number of a node that generalizes t
abbrev pub IsGeneralizing : Cell ℕ → Arena → ℕ → Type 0
IsGeneralizing t a k = (c : Cell ℕ) × (cell_at a.now k ≡ Some c) × (leq nat_eq c t ≡ true)

-- k is the number of a touched node that generalizes t that has values in the dimensions of the mask m
pub record IsNumber (t : Cell ℕ) (a : Arena) (m k : ℕ) : Type 0 where
  pub cell : Cell ℕ
  pub at : cell_at a.now k ≡ Some cell
  pub long : length cell ≡ length t
  pub below : leq nat_eq cell t ≡ true
  pub dims : mask cell ≡ m
  pub touched : is_touched a k ≡ true

-- such a node may be changed
pub record CanRewrite (t : Cell ℕ) (a : Arena) (k : ℕ) : Type 0 where
  pub change : CanChange a k
  pub node : IsGeneralizing t a k

-- in an open batch such a node may be touched
pub record CanTouch (t : Cell ℕ) (a : Arena) (k : ℕ) : Type 0 where
  pub opened : is_open a ≡ true
  pub node : IsGeneralizing t a k

-- in an open batch a node that generalizes t may be added under the parent, or as the root
pub record CanAddNew (t : Cell ℕ) (a : Arena) (under : Option (NodeNo × ℕ × ℕ)) : Type 0 where
  pub opened : is_open a ≡ true
  pub place : IsPlace a.width a.now under
  pub below : leq nat_eq (new_record a.width a.now under).cell t ≡ true

-- a label with the code v in dimension i may lead to the number k
pub record CanLead (a : Arena) (i v k : ℕ) : Type 0 where
  pub target : IsSome (map.get a.now k)
  pub dim : i < a.width
  pub code : IsCode v

-- each number that is kept by a mask is that of such a node
abbrev pub AreNumbers : Cell ℕ → Arena → (ℕ → Option ℕ) → Type 0
AreNumbers t a numbers = (m k : ℕ) → numbers m ≡ Some k → IsNumber t a m k

-- a tuple of values is being inserted: the batch is open, the edges lead to nodes, and these numbers are known
pub record IsInserting (t : Cell ℕ) (a : Arena) (f : ℕ → Option ℕ) : Type 0 where
  pub opened : is_open a ≡ true
  pub no_any : All (λ entry. is_some entry ≡ true) t
  pub width : length t ≡ a.width
  pub closed : IsClosed a
  pub numbers : AreNumbers t a f

-- a record with more edges, each in the place of its label
abbrev pub put_edges : List (Edge ℕ ℕ) → List (Edge ℕ ℕ) → List (Edge ℕ ℕ)
put_edges [] xs = xs
put_edges (e ∷ es) xs = put_edges es (put_edge e xs)

abbrev pub with_edges : List (Edge ℕ ℕ) → Known → Known
with_edges es n = record n { edges = put_edges es n.edges }
