-- Rows as arrays of codes.
use Rattle.std.specs.Prelude.{ℕ, ◌==◌, if◌then◌else◌}

-- the code where both have it, and else the number that stands for Any
abbrev pub met : ℕ → ℕ → ℕ
met x y = if x == y then x else 4294967295
