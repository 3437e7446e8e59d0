-- A state as bytes.
use Rattle.std.specs.Prelude.{◌≡◌, ◌<◌, ℕ, List, length}
use Rattle.cube_defs.specs.Text.{text_cmp}
use Rattle.cube_defs.specs.Tree.{nodes}
use Rattle.warehouse.specs.State.{IsConsistent, State, coded_rows}
use Rattle.cube_snapshot.specs.Snapshot.{Parts, snapshot}

-- its schema, its lists of texts, and its rows with the place of each text in place of the text
abbrev pub parts_in : State → Parts
parts_in s = record { schema = s.schema; texts = s.texts; rows = coded_rows s }

-- the one spelling of a state
abbrev pub spelling : State → List ℕ
spelling s = snapshot.put (parts_in s)

-- the bytes are the spelling of the state, which is within all limits but that of its nodes, and has more of them than
-- it may have
pub record HasTooManyNodes (bytes : List ℕ) (s : State) : Type 0 where
  pub spelled : bytes ≡ spelling s
  pub consistent : IsConsistent s
  pub many : s.schema.nodes < length (nodes text_cmp s.rows)
