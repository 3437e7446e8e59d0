-- Cells, records and maps of another number of dimensions.
use Rattle.std.specs.Prelude.{ℕ, zero, suc, List, [], ◌∷◌, None, map}
use Rattle.std.specs.FinMap as maps
use Rattle.cube_defs.specs.Cell.{Cell}
use Rattle.cube_defs.specs.Tree.{Tree}
use Rattle.qc_arena.specs.Map.{Known}

-- the first entries of a cell, and Any where it has no more
abbrev pub resize : ℕ → Cell ℕ → Cell ℕ
resize zero c = []
resize (suc n) [] = None ∷ resize n []
resize (suc n) (e ∷ c) = e ∷ resize n c

-- a record with so many entries in its cell
abbrev pub resized : ℕ → Known → Known
resized n r = record r { cell = resize n r.cell }

abbrev pub entry_resized : ℕ → ℕ × Known → ℕ × Known
entry_resized n e = (e.0, resized n e.1)

abbrev pub all_resized : ℕ → Tree ℕ → Tree ℕ
all_resized n tree = maps.from_sorted (map (entry_resized n) (maps.entries tree))

-- a list with another first entry
abbrev pub with_first : {X : Type 0} → X → List X → List X
with_first x [] = x ∷ []
with_first x (y ∷ rest) = x ∷ rest
