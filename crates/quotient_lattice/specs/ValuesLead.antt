-- Classes that specialize a class, by the values that they have and it has not.
use Rattle.std.specs.Prelude.{◌≡◌, slice_get, ℕ, Some, None, List}
use Rattle.std.specs.Ordering.{nat_cmp, eq_by_cmp}
use Rattle.cube_defs.specs.Cell.{Cell, with_value}
use Rattle.cube_defs.specs.Rows.{Row, closure}

-- each value that d has and u has not leads from u to d
abbrev pub AllValuesLead : List (Row ℕ) → Cell ℕ → Cell ℕ → Type 0
AllValuesLead rows u d = (i v : ℕ) → slice_get u i ≡ Some None → slice_get d i ≡ Some (Some v)
    → closure (eq_by_cmp nat_cmp) rows (with_value u i v) ≡ Some d
