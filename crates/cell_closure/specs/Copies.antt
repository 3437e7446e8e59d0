-- Rows that are copied.
use Rattle.std.specs.Prelude.{ℕ, ℤ, ◌≡◌, List, Some, None, flat_map, length, map}
use Rattle.cube_defs.specs.Rows.{Row}
use Rattle.cube_defs.specs.declared.limits.TheConstants.{MAX_ROWS}
use Rattle.base_table.specs.Places.{IsTable, Places}

-- a table of these rows, without empty places
abbrev pub places_of : ℕ → ℕ → List (Row ℕ) → Places
places_of dims measures rows = record {
  dims = dims;
  measures = measures;
  max = MAX_ROWS;
  places = map (λ row. Some row) rows;
  was = None;
}

-- the codes and the amounts of the rows lie one after another
pub record AreCopied (dims measures count : ℕ) (codes : List ℕ) (amounts : List ℤ) (rows : List (Row ℕ))
    : Type 0 where
  pub table : IsTable (places_of dims measures rows)
  pub len : count ≡ length rows
  pub tuples : codes ≡ flat_map (λ row. row.tuple) rows
  pub values : amounts ≡ flat_map (λ row. row.amounts) rows
