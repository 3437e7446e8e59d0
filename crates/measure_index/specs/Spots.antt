-- Where keys stand in blocks.
use Rattle.std.specs.Prelude.{◌≡◌, ◌<◌, ◌≤◌, List, true, length, slice_index_or}
use Rattle.std.specs.Prelude.{Vec}
use Rattle.std.specs.declared.alloc.Global.{Global}
use Rattle.measure_index.specs.declared.key.Key.{Key}
use Rattle.measure_index.specs.declared.blocks.Spot.{Spot}
use Rattle.measure_index.specs.Blocks.{joined, place_of}
use Rattle.measure_index.specs.ColumnKeys.{key_cmp}
use Rattle.measure_index.specs.Keys.{IsPlace, among}

-- where the key stands or would stand
pub record IsSpot (blocks : List (Vec Key Global)) (q : Key) (spot : Spot) : Type 0 where
  pub block : spot.block < length blocks
  pub within : (d : Vec Key Global) → spot.place ≤ length (slice_index_or blocks spot.block d).items
  pub there : (d : Vec Key Global) → spot.found ≡ true → spot.place < length (slice_index_or blocks spot.block d).items
  pub place : IsPlace key_cmp (joined blocks) q (place_of blocks spot.block spot.place)
  pub found : spot.found ≡ among key_cmp (joined blocks) q
