-- A list of the classes of a tree.
use Rattle.std.specs.Prelude.{ℕ, List, IsSome, nat_eq}
use Rattle.std.specs.FinMap as map
use Rattle.std.specs.List.{IsDistinct}
use Rattle.cube_defs.specs.Tree.{Tree}
use Rattle.cube_laws.specs.Lists.{Among}
use Rattle.qc_arena.specs.Changes.{class_in}

-- numbers of nodes, each once, and each class among them
pub record ListsClasses (tree : Tree ℕ) (numbers : List ℕ) : Type 0 where
  pub once : IsDistinct nat_eq numbers
  pub there : (k : ℕ) → Among k numbers → IsSome (map.get tree k)
  pub all : (k : ℕ) → IsSome (class_in (map.get tree k)) → Among k numbers
