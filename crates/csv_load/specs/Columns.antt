-- The columns of a file that a schema names.
use Rattle.std.specs.Prelude.{◌≡◌, ◌<◌, ◌≤◌, ◌+◌, ℕ, Bool, true, false, codes, List, [], ◌∷◌, ◌++◌, length, map, Option, Some, None}
use Rattle.std.specs.Prelude.{slice_index_or, if◌then◌else◌}
use Rattle.std.specs.List.{All, list_any}
use Rattle.std.specs.Str.{bytes_eq}
use Rattle.cube_defs.specs.Text.{Text}
use Rattle.qc_schema.specs.Schema.{Layout, names_of}
use Rattle.text_lines.specs.Records.{bytes_in}
use Rattle.csv_load.specs.declared.columns.Columns.{Columns}

-- x before the list, where both are there
abbrev pub cons_some : {X : Type 0} → Option X → Option (List X) → Option (List X)
cons_some None more = None
cons_some (Some x) None = None
cons_some (Some x) (Some xs) = Some (x ∷ xs)

-- the place of the one field with this name, where the places begin at k; none where no field or more than one has it
abbrev pub place_from : ℕ → Text → List (List ℕ) → Option ℕ
place_from k name [] = None
place_from k name (field ∷ fields) =
    if bytes_eq field name
    then (if list_any (λ other. bytes_eq other name) fields then None else Some k)
    else place_from (k + 1) name fields

-- the same of each name
abbrev pub places_in : List (List ℕ) → List Text → Option (List ℕ)
places_in header [] = Some []
places_in header (name ∷ names) = cons_some (place_from 0 name header) (places_in header names)

-- the fields at some places
abbrev pub fields_at : List ℕ → List (List ℕ) → List (List ℕ)
fields_at places fields = map (λ place. slice_index_or fields place []) places

-- the columns that a file must have: those of the schema, and after them the op of a batch
abbrev pub needed_names : Bool → Layout → List Text
needed_names false layout = names_of layout
needed_names true layout = names_of layout ++ codes "op" ∷ []

-- a place in the header for each of these names, none taken twice: the fields at them have no more bytes than all
pub record AreColumns (layout : Layout) (columns : Columns) : Type 0 where
  pub all : length columns.places.items ≡ length (needed_names columns.has_op layout)
  pub size : (fields : List (List ℕ)) → bytes_in (fields_at columns.places.items fields) ≤ bytes_in fields
  pub within : All (λ place. place < columns.width) columns.places.items
