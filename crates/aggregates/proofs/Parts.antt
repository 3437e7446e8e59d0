-- The parts of an aggregate, by their places.
use Rattle.std.proofs.Common.{◌≡◌, ℕ, zero, suc, ◌<◌, List, [], ◌∷◌, map, take, length, refl, arith, slice_index_or}
use Rattle.cube_defs.specs.Rows.{part_of}
use Rattle.aggregates.specs.declared.agg.Part.{Part}
use Rattle.aggregates.specs.Bounds.{zero_part}
use Rattle.aggregates.specs.Views.{part_in}

pub part-in : (ps : List Part) (n m : ℕ) → m < n → m < length ps
    → slice_index_or (map part_in (take n ps)) m (part_of []) ≡ part_in (slice_index_or ps m zero_part)
part-in [] n m h l = absurd (omega arith)
part-in (p ∷ ps) zero m h l = absurd (omega arith)
part-in (p ∷ ps) (suc n) zero h l = refl
part-in (p ∷ ps) (suc n) (suc m) h l = part-in ps n m (omega arith) (omega arith)
