-- The names of dimensions.
use Rattle.std.proofs.Common.{◌≡◌, ◌≤◌, ◌<◌, ℕ, zero, suc, List, [], ◌∷◌, ◌++◌, length, map, get_or, true, arith}
use Rattle.std.specs.Prelude.{◌&&◌, nat_le, not, codes}
use Rattle.std.specs.Char.{is_ascii_alphabetic}
use Rattle.std.specs.List.{list_all}
use Rattle.std.specs.Str.{bytes_eq}
use Rattle.std.proofs.lemmas.Bool.{and_parts, leb-true}
use Rattle.cube_defs.specs.Text.{Text}
use Rattle.qc_schema.specs.Schema.{IsLayout, Layout, is_name, is_name_byte}

short-name : (name : Text) → is_name name ≡ true → length name ≤ 32
short-name name h =
    let p = and_parts (is_ascii_alphabetic (get_or name 0 0) && list_all is_name_byte name && nat_le (length name) 32)
    (not (bytes_eq name (codes "op"))) h in
    leb-true (length name) 32 (and_parts (is_ascii_alphabetic (get_or name 0 0) && list_all is_name_byte name)
    (nat_le (length name) 32) p.0).1

name-at : (names more : List Text) (k : ℕ) → list_all is_name (names ++ more) ≡ true → k < length names
    → is_name (get_or names k []) ≡ true
name-at [] more k h lt = absurd (omega arith)
name-at (name ∷ names) more zero h lt = (and_parts (is_name name) (list_all is_name (names ++ more)) h).0
name-at (name ∷ names) more (suc k) h lt
    = name-at names more k (and_parts (is_name name) (list_all is_name (names ++ more)) h).1 (omega arith)

-- a dimension's name is short
pub short-dim : (layout : Layout) (dim : ℕ) → IsLayout layout → dim < length layout.dims
    → length (get_or layout.dims dim []) ≤ 32
short-dim layout dim is lt =
    let measures = map (λ m. m.name) layout.measures in
    short-name _ (name-at layout.dims measures dim
    (and_parts (is_name layout.id) (list_all is_name (layout.dims ++ measures)) is.names).1 lt)
