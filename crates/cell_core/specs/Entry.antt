-- What an entry is in the definitions of the cube.
use Rattle.std.specs.Prelude.{ℕ, Option, Some, None, ◌<◌}
use Rattle.cube_defs.specs.declared.limits.TheConstants.{MAX_CODES}
use Rattle.cell_core.specs.declared.cell.Entry.{Entry}
use Rattle.cell_core.specs.declared.cell.Entry.TheVariants.{Any, Is}

abbrev pub value_in : Entry → Option ℕ
value_in Any = None
value_in (Is code) = Some code

-- a number that may be the code of a value
abbrev pub IsCode : ℕ → Type 0
IsCode code = code < MAX_CODES

-- the code, if there is one, may be that of a value
abbrev pub IsSmall : Entry → Type 0
IsSmall Any = Unit {0}
IsSmall (Is code) = IsCode code
