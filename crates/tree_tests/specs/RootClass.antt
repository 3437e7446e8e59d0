-- A tree of four dimensions that has one node, a class.
use Rattle.std.specs.Prelude.{ℕ, ◌≡◌, ◌≢◌, IsSome, Some, None, replicate}
use Rattle.std.specs.FinMap as map
use Rattle.cube_defs.specs.Tree.{Tree, cell_at}
use Rattle.qc_arena.specs.RecordReaders.{record_at}

-- the root is a class, and there is no other node
pub record IsRootClass (root : ℕ) (tree : Tree ℕ) : Type 0 where
  pub cell : cell_at tree root ≡ Some (replicate 4 None)
  pub class : IsSome (record_at tree root).class
  pub alone : (q : ℕ) → q ≢ root → map.get tree q ≡ None
