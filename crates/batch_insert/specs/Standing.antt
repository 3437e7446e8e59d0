-- Where the walk that plans stands.
use Rattle.std.specs.Prelude.{All, ◌≡◌, ◌≢◌, ◌<◌, ◌≤◌, ℕ, Option, None, Some, IfNone, IfSome, IsSome, true, is_some, length, replicate}
use Rattle.std.specs.FinMap as map
use Rattle.cell_core.specs.declared.cell.NodeNo.{NodeNo}
use Rattle.cube_defs.specs.Cell.{Cell, cell_prefix, depth, mask}
use Rattle.cube_defs.specs.Tree.{cell_at}
use Rattle.cube_defs.specs.declared.limits.TheConstants.{MAX_DIMS}
use Rattle.qc_arena.specs.Map.{Arena}
use Rattle.batch_insert.specs.declared.plan.Plan.{Plan}
use Rattle.batch_insert.specs.declared.shared.OldPrefix.{OldPrefix}
use Rattle.batch_insert.specs.Cases.{Case, IsChain, IsPrefix, old_closure}
use Rattle.batch_insert.specs.Masks.{Shares, part}
use Rattle.batch_insert.specs.Planned.{IsReady}
use Rattle.batch_insert.specs.Whole.{HasPlannedNode}

-- a tuple of values comes to the tree of some rows, which is as wide
pub record IsInsertion (t : Cell ℕ) (a : Arena) : Type 0 where
  pub ready : IsReady a
  pub no_any : All (λ entry. is_some entry ≡ true) t
  pub width : length t ≡ a.width
  pub few : length t ≤ MAX_DIMS

-- the mask is that of some values of the tuple, all before one of its dimensions
pub record IsMaskBefore (t : Cell ℕ) (m i : ℕ) : Type 0 where
  pub masked : mask (part t m) ≡ m
  pub behind : depth (part t m) ≤ i
  pub dim : i < length t

-- the number, if there is one, is that of the root
pub record IsRoot (a : Arena) (root : Option NodeNo) : Type 0 where
  pub there : IfSome root (λ k. IsSome (map.get a.now k.0))
  pub top : IfSome root (λ k. cell_at a.now k.0 ≡ Some (replicate a.width None))
  pub none : IfNone root ((k : ℕ) → cell_at a.now k ≢ Some (replicate a.width None))

-- the node with the mask m has no forced child before dimension i, and the chain is at this prefix of its old closure
pub record StandsAt (t : Cell ℕ) (a : Arena) (m i : ℕ) (chain : OldPrefix) : Type 0 where
  pub masked : mask (part t m) ≡ m
  pub there : IfSome chain.node (λ k. IsSome (map.get a.now k.0))
  pub shares : IfSome chain.node (λ k. Shares t a.now m chain.is_own k.0)
  pub front : (c : Case t a) → IsPrefix c (part t m) i
  pub leads : (c : Case t a) → IsChain c (part t m) i chain.node

-- so it is after the last value of the node, which is planned
pub record StartsAt (t : Cell ℕ) (a : Arena) (m i : ℕ) (chain : OldPrefix) (plan : Plan) : Type 0 where
  pub at : StandsAt t a m i chain
  pub deep : depth (part t m) ≡ i
  pub own : chain.is_own ≡ true → (c : Case t a) (u : Cell ℕ) → old_closure c (part t m) ≡ Some u
      → cell_prefix i u ≡ part t m
  pub spot : HasPlannedNode plan (part t m)

-- it is before one of the tuple's dimensions, at a node that is planned
pub record StandsBefore (t : Cell ℕ) (a : Arena) (m i : ℕ) (chain : OldPrefix) (plan : Plan) : Type 0 where
  pub mask : IsMaskBefore t m i
  pub at : StandsAt t a m i chain
  pub node : HasPlannedNode plan (part t m)

-- it may read a label: there is such a dimension, and a node if the chain has a number
pub record CanRead (t : Cell ℕ) (a : Arena) (i : ℕ) (number : Option NodeNo) : Type 0 where
  pub dim : i < length t
  pub chain : IfSome number (λ k. IsSome (map.get a.now k.0))

-- so it may tell what the target of an old label shares with the tuple: the chain's node shares the values of the mask
pub record CanShare (t : Cell ℕ) (a : Arena) (m i : ℕ) (start : OldPrefix) (target : Option NodeNo) : Type 0 where
  pub dim : i < length t
  pub chain : IfSome start.node (λ k. Shares t a.now m start.is_own k.0)
  pub old : IfSome target (λ k. IsSome (map.get a.now k.0))
