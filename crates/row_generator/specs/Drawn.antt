-- The rows that a seed gives, and the changes that the generated files hold.
use Rattle.std.specs.Prelude.{ℕ, zero, suc, ◌+◌, List, [], ◌∷◌, ◌++◌, map, codes}
use Rattle.aggregates.specs.declared.kind.AggKind.TheVariants as kinds
use Rattle.cube_defs.specs.Rows.{Row}
use Rattle.cube_defs.specs.Text.{Text}
use Rattle.cube_defs.specs.declared.limits.TheConstants.{MAX_CODES, MAX_ROWS}
use Rattle.csv_load.specs.Batch.{Change, Delete, Insert}
use Rattle.qc_schema.specs.Schema.{Layout}
use Rattle.qc_schema.specs.declared.limits.SchemaVersion.TheVariants as versions
use Rattle.qc_schema.specs.declared.limits.TheConstants.{DEFAULT_NODES}
use Rattle.row_generator.specs.Generator.{after_draws, amount_of, batch_rows, drawn_value, oldest_id}

-- the schema of the files
abbrev pub layout : Layout
layout = record {
  version = versions.One;
  id = codes "id";
  dims = codes "a" ∷ codes "b" ∷ codes "c" ∷ codes "d" ∷ codes "e" ∷ [];
  measures = record { name = codes "amount"; scale = 2 } ∷ [];
  indexes = kinds.Sum 0 ∷ [];
  nodes = DEFAULT_NODES;
  rows = MAX_ROWS;
  values = MAX_CODES;
}

-- the values of a row in the five dimensions, from the state before its draws
abbrev pub drawn_tuple : ℕ → List Text
drawn_tuple s =
    drawn_value 97 40 s
    ∷ drawn_value 98 20 (after_draws 1 s)
    ∷ drawn_value 99 10 (after_draws 2 s)
    ∷ drawn_value 100 5 (after_draws 3 s)
    ∷ drawn_value 101 4 (after_draws 4 s)
    ∷ []

unfoldable pub drawn_row : ℕ → ℕ → Row Text
drawn_row id s = record { id = id; tuple = drawn_tuple s; amounts = amount_of id ∷ [] }

-- so many rows, of which the first has this id, from the state before their draws
abbrev pub drawn_rows : ℕ → ℕ → ℕ → List (Row Text)
drawn_rows zero id s = []
drawn_rows (suc k) id s = drawn_row id s ∷ drawn_rows k (id + 1) (after_draws 5 s)

-- the insertions of rows
abbrev pub insertions : List (Row Text) → List (Change Text)
insertions rows = map (λ row. Insert row) rows

-- the deletions of so many rows, of which the first has this id
abbrev pub deletions : ℕ → ℕ → List (Change Text)
deletions zero id = []
deletions (suc k) id = Delete id ∷ deletions k (id + 1)

-- the changes of the base file of so many rows
abbrev pub base_changes : ℕ → ℕ → List (Change Text)
base_changes rows s = insertions (drawn_rows rows 1 s)

-- the changes of the batch that so many others stand before
abbrev pub batch_changes : ℕ → ℕ → ℕ → List (Change Text)
batch_changes rows before s =
    deletions (batch_rows rows) (oldest_id rows before)
    ++ insertions (drawn_rows (batch_rows rows) (rows + oldest_id rows before) s)
