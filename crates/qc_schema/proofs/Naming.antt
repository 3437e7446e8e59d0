-- The names in the lines of a schema.
use Rattle.std.proofs.Common.{◌≡◌, ◌<◌, ℕ, zero, suc, List, [], ◌∷◌, length, get_or, ap, arith, Some, true, Bor, Result, Ok, Err}
use Rattle.std.specs.Prelude.{option_map, codes, ◌&&◌, not, nat_le, IsUtf8, MatchResult}
use Rattle.std.specs.Char.{is_ascii_alphabetic}
use Rattle.std.specs.List.{list_all}
use Rattle.std.specs.Result.{result_ok}
use Rattle.std.specs.Str.{bytes_eq}
use Rattle.std.proofs.lemmas.Bool.{and_parts}
use Rattle.std.proofs.lemmas.Bool.Decides.{nat_tests}
use Rattle.std.proofs.lemmas.Str.{IsUtf8-from_ascii}
use Rattle.qc_schema.specs.Schema.{is_name, is_name_byte}

-- a name is ASCII
pub name-byte : (b : ℕ) → is_name_byte b ≡ true → b < 128
name-byte b h = grind (arith, nat_tests)

bytes-ascii : (name : List ℕ) → list_all is_name_byte name ≡ true → (i : ℕ) → get_or name i 0 < 128
bytes-ascii [] h i = omega arith
bytes-ascii (b ∷ bs) h zero = name-byte b (and_parts (is_name_byte b) (list_all is_name_byte bs) h).0
bytes-ascii (b ∷ bs) h (suc i) = bytes-ascii bs (and_parts (is_name_byte b) (list_all is_name_byte bs) h).1 i

pub name-bytes : (name : List ℕ) → is_name name ≡ true → list_all is_name_byte name ≡ true
name-bytes name h =
    let p = and_parts (is_ascii_alphabetic (get_or name 0 0) && list_all is_name_byte name && nat_le (length name) 32)
    (not (bytes_eq name (codes "op"))) h in
    let q = and_parts (is_ascii_alphabetic (get_or name 0 0) && list_all is_name_byte name)
    (nat_le (length name) 32) p.0 in
    (and_parts (is_ascii_alphabetic (get_or name 0 0)) (list_all is_name_byte name) q.0).1

pub name-utf8 : (name : List ℕ) → is_name name ≡ true → IsUtf8 name
name-utf8 name h = IsUtf8-from_ascii name (bytes-ascii name (name-bytes name h))

-- what is known to be text is read as text
pub text-known : {E : Type 0} (r : Result (Bor (List ℕ)) E) (text : List ℕ) (Q : E → Type 0)
    → MatchResult r (λ s. (s.now ≡ text) × IsUtf8 text) (λ e. ¬ (IsUtf8 text) × Q e) → IsUtf8 text
    → option_map (λ s. s.now) (result_ok r) ≡ Some text
text-known (Ok s) text Q h utf8 = ap Some h.0
text-known (Err e) text Q h utf8 = absurd (h.0 utf8)
