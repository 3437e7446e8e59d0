-- What the fields of a line ask.
use Rattle.std.specs.Prelude.{ℕ, zero, suc, Bool, false, ◌+◌, ◌==◌, ◌||◌, ◌&&◌, List, [], ◌∷◌, codes, Option, Some, None, Result, Ok, Err}
use Rattle.std.specs.Prelude.{if◌then◌else◌}
use Rattle.std.specs.Str.{bytes_eq}
use Rattle.cube_defs.specs.Text.{Text}
use Rattle.cell_core.specs.declared.fields.Field as asked
use Rattle.cell_core.specs.declared.fields.Field.TheVariants as asks
use Rattle.text_lines.specs.Cuts.{cut_at}
use Rattle.query_script.specs.Faults.{LineFault, Field}
use Rattle.query_script.specs.declared.record.Shape.{Shape}
use Rattle.query_script.specs.declared.record.Shape.TheVariants as shapes

-- what stands for more than one value: `?`, and what begins with `|` or `~`
abbrev pub is_several : Text → Bool
is_several [] = false
is_several (b ∷ bs) = (b == 124) || (b == 126) || ((b == 63) && bytes_eq bs [])

-- the value that a field names: what is after `=` whatever its bytes, and else all of it
abbrev pub value_of : Text → Text
value_of [] = []
value_of (b ∷ bs) = if b == 61 then bs else b ∷ bs

-- the values from the one of two texts to the other
abbrev pub between_of : List Text → Option asked.Field
between_of [] = None
between_of (low ∷ []) = None
between_of (low ∷ high ∷ []) = Some (asks.Between low high)
between_of (low ∷ high ∷ more ∷ texts) = None

-- what a field of several values asks: after `|` these values, cut at each further `|`; after `~` the values between
-- two texts with
-- one `~` between them; and `?` each value
abbrev pub several_of : Text → Option asked.Field
several_of [] = Some asks.All
several_of (b ∷ bs) = if b == 124 then Some (asks.Among (cut_at 124 bs)) else if b == 126
    then between_of (cut_at 126 bs) else Some asks.All

-- only a record that asks for a box may ask for several values
abbrev pub several_in : Shape → Text → Option asked.Field
several_in shapes.Cell field = None
several_in shapes.Box field = several_of field

-- what a field asks of its dimension, if it is allowed there: `*` is Any, and what doesn't stand for several values is
-- one value
abbrev pub field_of : Shape → Text → Option asked.Field
field_of shape field =
    if bytes_eq field (codes "*") then Some asks.Any
    else if is_several field then several_in shape field
    else Some (asks.One (value_of field))

-- what a field asks before what the others ask, or the fault at its place
abbrev pub cons_asked : ℕ → Option asked.Field → Result (List asked.Field) LineFault
    → Result (List asked.Field) LineFault
cons_asked k None more = Err (Field k)
cons_asked k (Some field) (Err fault) = Err fault
cons_asked k (Some field) (Ok fields) = Ok (field ∷ fields)

-- what these fields, the first of them at place k, ask of so many dimensions where each asks what `ask` says,
-- or the first place at which a field is missing, isn't allowed or is one too many
abbrev pub fields_from : (Text → Option asked.Field) → ℕ → ℕ → List Text → Result (List asked.Field) LineFault
fields_from ask k zero [] = Ok []
fields_from ask k zero (text ∷ texts) = Err (Field k)
fields_from ask k (suc dims) [] = Err (Field k)
fields_from ask k (suc dims) (text ∷ texts) = cons_asked k (ask text) (fields_from ask (k + 1) dims texts)
