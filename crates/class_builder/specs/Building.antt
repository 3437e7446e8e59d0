-- An arena while a tree is built in it, act by act.
use Rattle.std.specs.Prelude.{◌≡◌, ◌<◌, ℕ, true, IsSome, Some, List, length, ◌++◌}
use Rattle.std.specs.List.{AllByRecursion}
use Rattle.std.specs.FinMap as map
use Rattle.cube_defs.specs.Cell.{Cell}
use Rattle.cube_defs.specs.Rows.{Row}
use Rattle.cube_defs.specs.Tree.{cell_at}
use Rattle.build_trace.specs.Trace.{Act, trace, adds_of}
use Rattle.build_trace.specs.Follows.{Follows}
use Rattle.qc_arena.specs.Map.{Arena, is_open, is_touched}

-- the arena has just what was done, each of its nodes is touched, and what is to come is the rest of the trace of these
-- rows
pub record IsBuilding (measures : ℕ) (rows : List (Row ℕ)) (done rest : List Act) (a : Arena) : Type 0 where
  pub wide : AllByRecursion (λ row. length row.tuple ≡ a.width) rows
  pub some : 0 < length rows
  pub whole : trace measures a.width rows ≡ done ++ rest
  pub opened : is_open a ≡ true
  pub follows : Follows done (λ k. map.get a.now k)
  pub count : map.len a.now ≡ length (adds_of done)
  pub touched : (k : ℕ) → IsSome (map.get a.now k) → is_touched a k ≡ true

-- these acts come next
pub record ActsComeNext (measures : ℕ) (rows : List (Row ℕ)) (es : List Act) (a : Arena) : Type 0 where
  pub done : List Act
  pub rest : List Act
  pub going : IsBuilding measures rows done (es ++ rest) a

-- from the one arena to the other these acts are done, and no node gets another cell
pub record PerformsActs (measures : ℕ) (rows : List (Row ℕ)) (es : List Act) (before after : Arena) : Type 0 where
  pub acts : (done rest : List Act) → IsBuilding measures rows done (es ++ rest) before
      → IsBuilding measures rows (done ++ es) rest after
  pub cells : (k : ℕ) (c : Cell ℕ) → cell_at before.now k ≡ Some c → cell_at after.now k ≡ Some c
