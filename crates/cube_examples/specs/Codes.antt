-- The shop with a code for each value, in the order in which the rows bring them.
use Rattle.std.specs.Prelude.{ℕ, suc, pos, Option, Some, None, List, [], ◌∷◌, if◌then◌else◌}
use Rattle.std.specs.Ordering.{nat_cmp, eq_by_cmp}
use Rattle.std.specs.FinMap.{empty, from_entries}
use Rattle.cube_defs.specs.Cell.{Cell, cell_eq}
use Rattle.cube_defs.specs.Tree.{Node, Edge, Tree, renamed}
use Rattle.cube_examples.specs.Shop.{ShopValues, base_table, sums}

abbrev pub shop_codes : ShopValues ℕ
shop_codes = record { S1 = 0; S2 = 1; P1 = 0; P2 = 1; s = 0; f = 1 }

abbrev pub code_cell : Option ℕ → Option ℕ → Option ℕ → Cell ℕ
code_cell a b c = a ∷ b ∷ c ∷ []

-- the code of s comes before that of f
abbrev pub s_first : Edge ℕ (Cell ℕ) → Edge ℕ (Cell ℕ) → List (Edge ℕ (Cell ℕ))
s_first s f = s ∷ f ∷ []

abbrev pub table : List (Node ℕ (Cell ℕ))
table = base_table shop_codes s_first

-- the place of a cell among the records, from k on
abbrev pub place_from : ℕ → List (Node ℕ (Cell ℕ)) → Cell ℕ → ℕ
place_from k [] c = k
place_from k (n ∷ ns) c = if cell_eq (eq_by_cmp nat_cmp) n.cell c then k else place_from (suc k) ns c

-- each record with its place as its number, and with the places of its targets
abbrev pub numbered : ℕ → List (Node ℕ (Cell ℕ)) → List (ℕ × Node ℕ ℕ)
numbered k [] = []
numbered k (n ∷ ns) = (k, renamed (place_from 0 table) n) ∷ numbered (suc k) ns

abbrev pub entries : List (ℕ × Node ℕ ℕ)
entries = numbered 0 table

-- the table as a map from numbers
unfoldable pub numbered_table : Tree ℕ
numbered_table = from_entries entries

-- the record of the first store, by numbers
abbrev pub numbered_store : Node ℕ ℕ
numbered_store = record {
  cell = code_cell (Some 0) None None;
  parent = Some 0;
  class = None;
  forced = Some (record { dim = 2; value = 0; target = 3 });
  edges = record { dim = 1; value = 0; target = 4 } ∷ record { dim = 1; value = 1; target = 6 }
      ∷ record { dim = 2; value = 0; target = 3 } ∷ [];
}

abbrev pub bare_root : Node ℕ ℕ
bare_root = record {
  cell = code_cell None None None;
  parent = None;
  class = Some (sums 3 (pos 27) (pos 6) (pos 12));
  forced = None;
  edges = [];
}

-- no nodes at all; the root under a second number; the root without its edges
unfoldable pub no_tree : Tree ℕ
no_tree = empty

unfoldable pub doubled_table : Tree ℕ
doubled_table = from_entries ((11, bare_root) ∷ entries)

unfoldable pub altered_table : Tree ℕ
altered_table = from_entries ((0, bare_root) ∷ entries)
