-- What names a pin is short.
use Rattle.std.proofs.Common.{◌≡◌, ◌≤◌, ℕ, List, length, get_or, true}
use Rattle.std.specs.Prelude.{◌&&◌, nat_le, not, codes}
use Rattle.std.specs.Char.{is_ascii_alphabetic}
use Rattle.std.specs.List.{list_all}
use Rattle.std.specs.Str.{bytes_eq}
use Rattle.std.proofs.lemmas.Bool.{and_parts, leb-true}
use Rattle.qc_schema.specs.Schema.{is_name, is_name_byte}

short-name : (name : List ℕ) → is_name name ≡ true → length name ≤ 32
short-name name h =
    let p = and_parts (is_ascii_alphabetic (get_or name 0 0) && list_all is_name_byte name && nat_le (length name) 32)
    (not (bytes_eq name (codes "op"))) h in
    leb-true (length name) 32 (and_parts (is_ascii_alphabetic (get_or name 0 0) && list_all is_name_byte name)
    (nat_le (length name) 32) p.0).1
