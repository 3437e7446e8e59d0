-- What is seen of the files of the system.
use Rattle.std.specs.Prelude.{ℕ, Bool, Option, None}
use Rattle.qc_io.specs.Outside.{Cursor}

-- whether a file is open, and the count of faults
pub record SystemFiles : Type 0 where
  pub is_open : Bool
  pub faults : ℕ

-- no place in an open file is told
abbrev pub no_cursor : Option Cursor
no_cursor = None
