-- The fields of a record.
use Rattle.std.proofs.Common.{◌≡◌, ◌<◌, ◌≤◌, ◌∙◌, ℕ, List, [], ◌∷◌, length, get_or, refl, sym, ap, true, false, Bool, ◌++◌, ◌+◌}
use Rattle.std.proofs.Common.{append_assoc}
use Rattle.std.specs.Prelude.{IsUtf8, slice_range, ◌&&◌}
use Rattle.std.specs.List.{list_all}
use Rattle.std.specs.Str.{is_utf8}
use Rattle.std.proofs.lemmas.Str.{IsUtf8-from_is_utf8}
use Rattle.std.proofs.lemmas.Bool.{le-leb, lt-leb}
use Rattle.csv_load.specs.Files.{is_short}
use Rattle.csv_load.proofs.Ranges.{range-more}
use Rattle.cube_defs.specs.declared.limits.TheConstants.{MAX_TEXT}

pub not-utf8 : (text : List ℕ) → ¬ (IsUtf8 text) → is_utf8 text ≡ false
not-utf8 text h = by (is_utf8 text) refl
  where
    by : (b : Bool) → is_utf8 text ≡ b → is_utf8 text ≡ false
    by true e = absurd (h (IsUtf8-from_is_utf8 text e))
    by false e = e

-- the elements of a part, of which the first passes a test or doesn't
pub bad-first : (p : List ℕ → Bool) (fields : List (List ℕ)) (i j : ℕ) → i < j → j ≤ length fields
    → p (get_or fields i []) ≡ false → list_all p (slice_range fields i j) ≡ false
bad-first p fields i j low high e = ap (list_all p) (range-more fields i j [] low high) ∙ rw e refl

pub good-first : (p : List ℕ → Bool) (fields : List (List ℕ)) (i j : ℕ) → i < j → j ≤ length fields
    → p (get_or fields i []) ≡ true
    → list_all p (slice_range fields i j) ≡ list_all p (slice_range fields (i + 1) j)
good-first p fields i j low high e = ap (list_all p) (range-more fields i j [] low high) ∙ rw e refl

pub texts-more : (texts fields : List (List ℕ)) (i j : ℕ) → i < j → j ≤ length fields
    → texts ++ slice_range fields i j ≡ (texts ++ get_or fields i [] ∷ []) ++ slice_range fields (i + 1) j
texts-more texts fields i j low high =
    ap (λ (more : List (List ℕ)). texts ++ more) (range-more fields i j [] low high)
    ∙ sym (append_assoc texts (get_or fields i [] ∷ []) (slice_range fields (i + 1) j))

-- whether all are short, when one more is looked at
pub short-bad : (fields : List (List ℕ)) (i j : ℕ) (b x : Bool) → i < j → j ≤ length fields
    → MAX_TEXT < length (get_or fields i []) → (b && list_all is_short (slice_range fields i j)) ≡ x → x ≡ false
short-bad fields i j b x low high long e
    = sym e ∙ ap (λ (y : Bool). b && y)
    (bad-first is_short fields i j low high (lt-leb (length (get_or fields i [])) MAX_TEXT long)) ∙ never b
  where
    never : (b : Bool) → (b && false) ≡ false
    never true = refl
    never false = refl

pub short-good : (fields : List (List ℕ)) (i j : ℕ) (b x : Bool) → i < j → j ≤ length fields
    → length (get_or fields i []) ≤ MAX_TEXT → (b && list_all is_short (slice_range fields i j)) ≡ x
    → (b && list_all is_short (slice_range fields (i + 1) j)) ≡ x
short-good fields i j b x low high few e
    = ap (λ (y : Bool). b && y)
    (sym (good-first is_short fields i j low high (le-leb (length (get_or fields i [])) MAX_TEXT few))) ∙ e
