-- Two trees that differ in the numbers of their nodes alone.
use Rattle.std.specs.Prelude.{◌≡◌, ℕ, Some, []}
use Rattle.std.specs.FinMap as map
use Rattle.std.specs.Option.{option_map}
use Rattle.cube_defs.specs.Tree.{Node, Tree, renamed}

-- `name` leads from the numbers of the one to those of the other, one to one, and from record to record
pub record IsRenaming {A : Type 0} (name : ℕ → ℕ) (tree other : Tree A) : Type 0 where
  pub records : (k : ℕ) (n : Node A ℕ) → map.get tree k ≡ Some n → map.get other (name k) ≡ Some (renamed name n)
  pub apart : (k l : ℕ) (n m : Node A ℕ) → map.get tree k ≡ Some n → map.get tree l ≡ Some m → name k ≡ name l → k ≡ l
  pub all : (l : ℕ) (m : Node A ℕ) → map.get other l ≡ Some m → (k : ℕ) × (n : Node A ℕ) × (map.get tree k ≡ Some n)
      × (name k ≡ l)

-- a record without what its rows come to: it still tells whether the node is a class
abbrev pub shape : {A T : Type 0} → Node A T → Node A T
shape n = record {
  cell = n.cell;
  parent = n.parent;
  class = option_map (λ a. record { count = 0; parts = [] }) n.class;
  forced = n.forced;
  edges = n.edges;
}
