-- Bytes that are handed on, the first of them first.
use Rattle.std.specs.Prelude.{◌≡◌, ◌++◌, ℕ, List, Option}
use Rattle.qc_io.specs.Outside.{with_taken}

-- out took a prefix of these bytes, and the rest is kept
pub record IsFlushed (bytes kept : List ℕ) (before now : Option (List ℕ)) : Type 0 where
  pub front : List ℕ
  pub split : bytes ≡ front ++ kept
  pub took : now ≡ with_taken front before

-- out took a prefix of these bytes
abbrev pub TookPrefix : List ℕ → Option (List ℕ) → Option (List ℕ) → Type 0
TookPrefix bytes before now = (rest : List ℕ) × IsFlushed bytes rest before now
