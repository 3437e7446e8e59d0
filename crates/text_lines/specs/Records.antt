-- The records that a reader of a text has left.
use Rattle.std.specs.Prelude.{◌≡◌, ◌+◌, ℕ, Bool, true, false, List, [], ◌∷◌, length, Option, Some, option_map, unwrap_or, IsSome}
use Rattle.std.proofs.Common.{Bor}
use Rattle.csv.specs.Machine.{ends_at_end}
use Rattle.csv.specs.Reading.{Ready, default_config, is_flexible, reader_config, reader_state, reader_trim, records_from, source_of}
use Rattle.csv.specs.declared.parser.State.{State}
use Rattle.csv.specs.declared.reader.Reader.{Reader}
use Rattle.csv.specs.declared.reader.Trim.TheVariants as trim

-- the records of the rest of a text
abbrev pub records_rest : State → List ℕ → List (List (List ℕ))
records_rest s xs = records_from default_config (length xs + 1) s xs

abbrev pub text_left : Reader (Bor (List ℕ)) → Option (List ℕ)
text_left r = source_of (λ s. Some s.now) r

abbrev pub rows_left : Reader (Bor (List ℕ)) → List (List (List ℕ))
rows_left r = unwrap_or (option_map (records_rest (reader_state r)) (text_left r)) []

-- a reader at the defaults but flexible, between two records
pub record IsPlain (r : Reader (Bor (List ℕ))) : Type 0 where
  pub trim : reader_trim r ≡ trim.None
  pub ready : Ready r
  pub config : reader_config r ≡ default_config
  pub flexible : is_flexible r ≡ true
  pub between : ends_at_end (reader_state r) ≡ false
  pub known : IsSome (text_left r)

-- a read took the next record, or found none
abbrev pub Steps : Reader (Bor (List ℕ)) → Reader (Bor (List ℕ)) → Bool → List (List ℕ) → Type 0
Steps a b true fields = (rows_left a ≡ fields ∷ rows_left b) × IsPlain b
Steps a b false fields = rows_left a ≡ []

-- how many bytes the fields of a record have, and how many those of some records
abbrev pub bytes_in : List (List ℕ) → ℕ
bytes_in [] = 0
bytes_in (text ∷ texts) = length text + bytes_in texts

abbrev pub bytes_in_all : List (List (List ℕ)) → ℕ
bytes_in_all [] = 0
bytes_in_all (fields ∷ records) = bytes_in fields + bytes_in_all records
