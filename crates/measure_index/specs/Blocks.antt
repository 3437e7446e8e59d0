-- Keys in rising order, in blocks.
use Rattle.std.specs.Prelude.{◌≡◌, ℕ, ◌+◌, ◌<◌, ◌≤◌, Bool, true, false, cond, not, List, if◌then◌else◌, length, slice_index_or, take}
use Rattle.std.specs.List.{All, flat_map, list_any}
use Rattle.std.specs.List.Sorted.{IsStrictlySortedBy}
use Rattle.std.specs.Ordering.{eq_by_cmp, is_gt}
use Rattle.std.specs.Prelude.{Vec}
use Rattle.std.specs.declared.alloc.Global.{Global}
use Rattle.measure_index.specs.declared.key.Key.{Key}
use Rattle.measure_index.specs.ColumnKeys.{key_cmp}

-- the keys of the blocks, one block after another
abbrev pub joined : List (Vec Key Global) → List Key
joined blocks = flat_map (λ b. b.items) blocks

-- no block is empty, and the keys rise
pub record AreBlocks (blocks : List (Vec Key Global)) : Type 0 where
  pub full : All (λ b. 0 < length b.items) blocks
  pub rising : IsStrictlySortedBy key_cmp (joined blocks)

-- the block at low doesn't begin after the key, and the block at high does, if there is one
pub record AreBounds (blocks : List (Vec Key Global)) (q : Key) (low high : ℕ) : Type 0 where
  pub apart : low < high
  pub within : high ≤ length blocks
  pub least : (d : Vec Key Global) (e : Key) → 0 < low
      → is_gt (key_cmp (slice_index_or (slice_index_or blocks low d).items 0 e) q) ≡ false
  pub above : (d : Vec Key Global) (e : Key) → high < length blocks
      → is_gt (key_cmp (slice_index_or (slice_index_or blocks high d).items 0 e) q) ≡ true

-- the place of a key of a block among all keys
abbrev pub place_of : List (Vec Key Global) → ℕ → ℕ → ℕ
place_of blocks block place = length (joined (take block blocks)) + place

-- the keys before and after one is added, and whether it is new
pub record HasCome (key : Key) (old new : List Key) (came : Bool) : Type 0 where
  pub added : came ≡ not (list_any (eq_by_cmp key_cmp key) old)
  pub has : (q : Key) → list_any (eq_by_cmp key_cmp q) new ≡ cond (eq_by_cmp key_cmp key q) true (list_any (eq_by_cmp key_cmp q) old)
  pub len : length new ≡ length old + (if came then 1 else 0)
  pub rising : IsStrictlySortedBy key_cmp new

-- the keys before and after one is removed, and whether it was there
pub record HasGone (key : Key) (old new : List Key) (gone : Bool) : Type 0 where
  pub has : (q : Key) → list_any (eq_by_cmp key_cmp q) new ≡ cond (eq_by_cmp key_cmp key q) false (list_any (eq_by_cmp key_cmp q) old)
  pub len : length new + (if gone then 1 else 0) ≡ length old
