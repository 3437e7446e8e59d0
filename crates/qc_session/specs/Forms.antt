-- What the words after the program's name ask for.
use Rattle.std.specs.Prelude.{ℕ, ◌&&◌, nat_le, nat_lt, List, [], ◌∷◌, Option, Some, None, codes, string_bytes, ⊤, String, if◌then◌else◌}
use Rattle.std.specs.declared.alloc.Global.{Global}
use Rattle.std.specs.Str.{bytes_eq}
use Rattle.aggregates.specs.Numbers.{id_in}
use Rattle.cube_defs.specs.declared.limits.TheConstants.{MAX_ROWS}

-- how the first file tells the state at which a run starts
pub data Source : Type 0 where
  FromSchema : Source
  FromSnapshot : Source

-- the names of the first file and of the script, and what the first is
pub record FileNames : Type 0 where
  pub source : Source
  pub first : List ℕ
  pub script : List ℕ

-- how many rows the base file has, and the seed from which they are drawn
pub record Drawing : Type 0 where
  pub rows : ℕ
  pub seed : ℕ

-- a listed form: `run SCHEMA SCRIPT` or `open SNAPSHOT SCRIPT`, `pack SCHEMA SCRIPT`, or `gen ROWS SEED`
pub data Form : Type 0 where
  Run : FileNames → Form
  Pack : FileNames → Form
  Gen : Drawing → Form

-- from one row to the most that a cube may have; the numbers are there where the words are decimal digits alone, of a
-- value less than 2 ^ 64
abbrev pub drawing_of : Option ℕ → Option ℕ → Option Form
drawing_of None seed = None
drawing_of (Some rows) None = None
drawing_of (Some rows) (Some seed) = if nat_lt 0 rows && nat_le rows MAX_ROWS
    then Some (Gen (record { rows = rows; seed = seed })) else None

-- the form of the words, where they are one
abbrev pub form_of : List (String Global) → Option Form
form_of [] = None
form_of (a ∷ []) = None
form_of (a ∷ b ∷ []) = None
form_of (a ∷ b ∷ c ∷ []) =
    if bytes_eq (string_bytes a) (codes "run")
    then Some (Run (record { source = FromSchema; first = string_bytes b; script = string_bytes c }))
    else if bytes_eq (string_bytes a) (codes "open")
    then Some (Run (record { source = FromSnapshot; first = string_bytes b; script = string_bytes c }))
    else if bytes_eq (string_bytes a) (codes "pack")
    then Some (Pack (record { source = FromSchema; first = string_bytes b; script = string_bytes c }))
    else if bytes_eq (string_bytes a) (codes "gen") then drawing_of (id_in (string_bytes b)) (id_in (string_bytes c))
    else None
form_of (a ∷ b ∷ c ∷ d ∷ more) = None

-- a fact of the two names, where the form is that of a run with its replies
abbrev pub IfRun : Option Form → (FileNames → Type 0) → Type 0
IfRun None P = ⊤
IfRun (Some (Run names)) P = P names
IfRun (Some (Pack names)) P = ⊤
IfRun (Some (Gen drawing)) P = ⊤

-- a fact of the two names, where the form is that of a run for its snapshot
abbrev pub IfPack : Option Form → (FileNames → Type 0) → Type 0
IfPack None P = ⊤
IfPack (Some (Run names)) P = ⊤
IfPack (Some (Pack names)) P = P names
IfPack (Some (Gen drawing)) P = ⊤

-- a fact of the two numbers, where the form is that of a generated run
abbrev pub IfGen : Option Form → (Drawing → Type 0) → Type 0
IfGen None P = ⊤
IfGen (Some (Run names)) P = ⊤
IfGen (Some (Pack names)) P = ⊤
IfGen (Some (Gen drawing)) P = P drawing
