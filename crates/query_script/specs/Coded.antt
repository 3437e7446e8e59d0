-- Points and `bounds` by the codes of what they ask.
use Rattle.std.specs.Prelude.{◌≡◌, ℕ, Bool, true, false, List, [], codes, length, All, Option, Some, None, Ok, ⊤}
use Rattle.cube_defs.specs.Text.{Text}
use Rattle.cube_defs.specs.Cell.{Cell}
use Rattle.cell_core.specs.declared.fields.Field.{Field}
use Rattle.qc_schema.specs.Schema.{Layout}
use Rattle.text_lines.specs.Plain.{pieces}
use Rattle.value_dict.specs.TextLists.{cell_in}
use Rattle.query_script.specs.Commands.{IsCellField, command_in}
use Rattle.query_script.specs.Fields.{field_of, fields_from}
use Rattle.query_script.specs.Queries.{Bounds, Point, Query}
use Rattle.query_script.specs.Questions.{Ask}
use Rattle.query_script.specs.declared.record.Shape.TheVariants as shapes
use Rattle.query_script.specs.declared.coded.CellQuery.{CellQuery}
use Rattle.query_script.specs.declared.coded.CellQuery.TheVariants as queries
use Rattle.query_script.specs.declared.coded.CellRead.{CellRead}
use Rattle.query_script.specs.declared.coded.CellRead.TheVariants as coded

-- what stands between the commas of a text, where one is left
abbrev pub pieces_left : Bool → List ℕ → List Text
pieces_left true text = pieces text
pieces_left false text = []

-- fields that ask for the cell of these codes, or for none that is known
pub record AskForCell (lists : List (List Text)) (texts : List Text) (found : Option (Cell ℕ)) : Type 0 where
  pub asked : List Field
  pub fields : fields_from (field_of shapes.Cell) 1 (length lists) texts ≡ Ok asked
  pub codes : cell_in lists asked ≡ found

-- what is known of fields, by whether all their values are known; nothing of those that weren't read
abbrev pub AreCoded : Option Bool → List (List Text) → List Text → Cell ℕ → Type 0
AreCoded None lists texts cell = ⊤
AreCoded (Some false) lists texts cell = AskForCell lists texts None
AreCoded (Some true) lists texts cell = AskForCell lists texts (Some cell)

-- a query of the cell of these fields
abbrev pub query_of : CellQuery → List Field → Query
query_of queries.Point asked = Point asked
query_of queries.Bounds asked = Bounds asked

-- the command word of a query, and the space after it
abbrev pub command_start : CellQuery → List ℕ
command_start queries.Point = codes "point "
command_start queries.Bounds = codes "bounds "

-- a query of the cell of these codes, or of one with a value that isn't known
pub record AsksByCodes (query : CellQuery) (layout : Layout) (lists : List (List Text)) (line : List ℕ)
    (found : Option (Cell ℕ)) : Type 0 where
  pub asked : List Field
  pub command : command_in layout line ≡ Ok (Ask (query_of query asked))
  pub count : length asked ≡ length layout.dims
  pub each : All IsCellField asked
  pub codes : cell_in lists asked ≡ found

-- what is known of a line that was read so
abbrev pub IsCoded : CellRead → Layout → List (List Text) → List ℕ → Cell ℕ → Type 0
IsCoded coded.Unread layout lists line cell = ⊤
IsCoded (coded.Unknown query) layout lists line cell = AsksByCodes query layout lists line None
IsCoded (coded.Known query) layout lists line cell = AsksByCodes query layout lists line (Some cell)
