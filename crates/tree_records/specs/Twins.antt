-- Two trees have the same records, whatever the numbers.
use Rattle.std.specs.Prelude.{ℕ, ◌<◌, ◌≡◌, Option, Some, IfSome, List, map, option_map, slice_get}
use Rattle.std.specs.FinMap as finmap
use Rattle.cube_defs.specs.Tree.{Tree, renamed_edge}
use Rattle.qc_arena.specs.Map.{AreRooted, Known}
use Rattle.tree_records.specs.Lines.{IsSmall, line_at, line_of}
use Rattle.tree_records.specs.declared.lines.TheConstants.{NUMBERS}

-- in both trees each node's parent is there, and has the node's cell without the last value
pub record AreBothRooted (one other : Tree ℕ) : Type 0 where
  pub first : AreRooted one
  pub second : AreRooted other

-- both numbers are those of nodes whose cells have the same line
abbrev pub HaveSameLine : Tree ℕ → ℕ → Tree ℕ → ℕ → Type 0
HaveSameLine one a other b = (line : List ℕ) × (line_at one a ≡ Some line) × (line_at other b ≡ Some line)

-- the records of a node of one tree and of a node of another agree, with lines in place of numbers
pub record AreAlike (one other : Tree ℕ) (n m : Known) : Type 0 where
  pub cell : line_of n.cell ≡ line_of m.cell
  pub forced : option_map (renamed_edge (line_at one)) n.forced ≡ option_map (renamed_edge (line_at other)) m.forced
  pub edges : map (renamed_edge (line_at one)) n.edges ≡ map (renamed_edge (line_at other)) m.edges
  pub class : n.class ≡ m.class

-- a node of the other tree has the record
abbrev pub HasTwin : Tree ℕ → Tree ℕ → Known → Type 0
HasTwin one other n = (l : ℕ) × (m : Known) × (finmap.get other l ≡ Some m) × AreAlike one other n m

-- each record of a tree under the first numbers is in the other
abbrev pub HasTwins : Tree ℕ → Tree ℕ → Type 0
HasTwins one other = (k : ℕ) (n : Known) → k < NUMBERS → finmap.get one k ≡ Some n → HasTwin one other n

-- each record of one tree under the first numbers is in the other, and both have as many
pub record AreSame (one other : Tree ℕ) : Type 0 where
  pub here : HasTwins one other
  pub count : finmap.len one ≡ finmap.len other

-- a number has the line, if there is one, in a tree, where a node of another tree, of a small cell and under one of the
-- first numbers, has it
abbrev pub KeepsNumber : Option (List ℕ) → Tree ℕ → Tree ℕ → ℕ → Type 0
KeepsNumber line other tree k = IfSome line (λ line. (l : ℕ) (n : Known) → l < NUMBERS → finmap.get other l ≡ Some n
    → IsSmall n.cell → line_of n.cell ≡ line → line_at tree k ≡ Some line)

-- the same of each number of a list
abbrev pub KeepsNumbers : List (Option (List ℕ)) → Tree ℕ → Tree ℕ → Type 0
KeepsNumbers lines other tree =
    (k : ℕ) (line : Option (List ℕ)) → slice_get lines k ≡ Some line → KeepsNumber line other tree k
