-- What the codes in a cell mean.
use Rattle.std.specs.Prelude.{ℕ, ◌==◌, Bool, ◌||◌, nat_lt, Option, Some, None, List, map, if◌then◌else◌}
use Rattle.cube_defs.specs.declared.limits.TheConstants.{MAX_CODES}

-- the greatest u32 stands for Any
abbrev pub entry_of : ℕ → Option ℕ
entry_of code = if code == 4294967295 then None else Some code

abbrev pub entries_of : List ℕ → List (Option ℕ)
entries_of codes = map entry_of codes

-- a cell keeps codes of values, and the number for Any
abbrev pub is_kept : ℕ → Bool
is_kept code = nat_lt code MAX_CODES || code == 4294967295
