-- What readers of the parts of a snapshot answer.
use Rattle.std.specs.Prelude.{◌≡◌, ◌<◌, ◌≤◌, ℕ, ⊤, [], ◌∷◌, ◌++◌, List, Option, None, Some, Result, Ok, Err, false, true, is_some, length}
use Rattle.std.specs.Prelude.{map, nat_eq}
use Rattle.std.specs.List.{All, IsDistinct}
use Rattle.std.specs.Str.{bytes_eq}
use Rattle.base_table.specs.Places.{IsTable, Places, has_id, rows_of}
use Rattle.cube_defs.specs.Rows.{Row}
use Rattle.cube_defs.specs.Text.{Text}
use Rattle.csv_load.specs.Batch.{IsValue}
use Rattle.qc_schema.specs.Schema.{IsLayout, Layout}
use Rattle.value_dict.specs.TextLists.{IsDictionary, TextLists, list_at, no_texts}
use Rattle.value_dict.specs.Decoded.{AreCodes, RowsAreCodes}
use Rattle.cube_snapshot.specs.Parts as format
use Rattle.cube_snapshot.specs.Snapshot.{Parts}
use Rattle.cube_snapshot.specs.declared.refused.PartRefused.{PartRefused}
use Rattle.cube_snapshot.specs.declared.refused.PartRefused.TheVariants.{Form, Memory}

-- nothing that is allowed is read; want of memory says nothing
abbrev pub Refuses : {Y : Type 0} → (Y → Type 0) → PartRefused → Option Y → Type 0
Refuses {Y = Y} IsAllowed Form read = (y : Y) → read ≡ Some y → IsAllowed y → ⊥
Refuses IsAllowed Memory read = ⊤

-- the answer, seen by view, is what is read, and is allowed; or else it is a refusal
abbrev pub Reads : {X Y : Type 0} → (Y → Type 0) → (X → Y) → Result X PartRefused → Option Y → Type 0
Reads IsAllowed view (Ok x) read = (read ≡ Some (view x)) × IsAllowed (view x)
Reads IsAllowed view (Err e) read = Refuses IsAllowed e read

-- the same where no memory is taken
abbrev pub Finds : {X Y : Type 0} → (Y → Type 0) → (X → Y) → Option X → Option Y → Type 0
Finds IsAllowed view (Some x) read = (read ≡ Some (view x)) × IsAllowed (view x)
Finds {Y = Y} IsAllowed view None read = (y : Y) → read ≡ Some y → IsAllowed y → ⊥

-- a table but for its rows
abbrev pub table_frame : Places → Places
table_frame table = record table { places = [] }

-- the texts that a dimension may have
pub record AreAllowed (max : ℕ) (texts : List Text) : Type 0 where
  pub values : All IsValue texts
  pub distinct : IsDistinct bytes_eq texts
  pub few : length texts ≤ max

-- the rows that a table may have, where these are the texts
pub record MayBeRows (lists : List (List Text)) (max : ℕ) (rows : List (Row ℕ)) : Type 0 where
  pub known : RowsAreCodes lists rows
  pub ids : IsDistinct nat_eq (map (λ row. row.id) rows)
  pub few : length rows ≤ max

-- a batch is open for a table, which has a dimension for each of the lists
pub record MayTakeRows (lists : List (List Text)) (table : Places) : Type 0 where
  pub opened : is_some table.was ≡ true
  pub dims : length lists ≡ table.dims

-- the same of a table without rows
pub record MayTakeFirstRows (lists : List (List Text)) (table : Places) : Type 0 where
  pub takes : MayTakeRows lists table
  pub empty : rows_of table ≡ []

-- a dimension of a dictionary has no texts
pub record HasNoTexts (dict : TextLists) (dim : ℕ) : Type 0 where
  pub within : dim < length dict.lists
  pub empty : list_at dict dim ≡ []

-- a row that may come after others
pub record MayCome (lists : List (List Text)) (max : ℕ) (rows : List (Row ℕ)) (row : Row ℕ) : Type 0 where
  pub known : AreCodes lists row.tuple
  pub new : has_id rows row.id ≡ false
  pub room : length rows < max

-- the rows of a table before and after a row that was read, and the bytes after it
pub record IsNextRow (lists : List (List Text)) (table table' : Places) (bytes rest : List ℕ) : Type 0 where
  pub row : Row ℕ
  pub read : (format.row table.dims table.measures).get bytes ≡ Some (row, rest)
  pub came : MayCome lists table.max (rows_of table) row
  pub rows : rows_of table' ≡ rows_of table ++ row ∷ []
  pub kept : table_frame table' ≡ table_frame table

-- the texts and the rows of a state with this schema, but for the number of its nodes
abbrev pub MayFollowSchema : Layout → List (List Text) × List (Row ℕ) → Type 0
MayFollowSchema schema q = All (AreAllowed schema.values) q.0 × MayBeRows q.0 schema.rows q.1

-- the parts of such a state
abbrev pub AreWithin : Parts → Type 0
AreWithin p = IsLayout p.schema × MayFollowSchema p.schema (p.texts, p.rows)

-- the parts that are a schema, the lists of a dictionary and the rows of a table
abbrev pub parts_made : Layout → TextLists → Places → Parts
parts_made schema dict table = record { schema = schema; texts = dict.lists; rows = rows_of table }

-- a dictionary and a table for a schema
pub record AreFor (schema : Layout) (dict : TextLists) (table : Places) : Type 0 where
  pub layout : IsLayout schema
  pub lists : length dict.lists ≡ length schema.dims
  pub values : dict.max ≡ schema.values
  pub dims : table.dims ≡ length schema.dims
  pub measures : table.measures ≡ length schema.measures
  pub rows : table.max ≡ schema.rows

-- they have no texts and no rows, and a batch is open
pub record IsBegun (schema : Layout) (dict : TextLists) (table : Places) : Type 0 where
  pub are : AreFor schema dict table
  pub texts : dict ≡ no_texts (length dict.lists) dict.max
  pub no_rows : rows_of table ≡ []
  pub opened : is_some table.was ≡ true

-- they are such ones as a warehouse may have, and no batch is open
pub record IsMade (schema : Layout) (dict : TextLists) (table : Places) : Type 0 where
  pub are : AreFor schema dict table
  pub dictionary : IsDictionary dict
  pub table_is : IsTable table
  pub closed : table.was ≡ None
