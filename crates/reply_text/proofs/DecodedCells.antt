-- Cells of codes, and the texts of the codes.
use Rattle.std.proofs.Common.{◌≡◌, ◌<◌, ◌≤◌, ◌+◌, ◌∙◌, ℕ, zero, suc, Option, Some, None, List, [], ◌∷◌, ◌++◌, map, take, length, get_or}
use Rattle.std.proofs.Common.{refl, sym, ap, subst, append_assoc, append-nil, arith, add-one}
use Rattle.std.specs.Prelude.{slice_get, option_map}
use Rattle.std.specs.List.{flat_map}
use Rattle.cube_defs.specs.Text.{Text}
use Rattle.cube_defs.specs.Cell.{Cell}
use Rattle.value_dict.specs.Decoded.{HasTexts, text_of, decoded_cell}
use Rattle.reply_text.specs.Replies.{entry_text, fields_text}

-- there is a list for each entry
pub told-long : (lists : List (List Text)) (cell : Cell ℕ) → HasTexts lists cell → length cell ≤ length lists
told-long lists [] h = omega arith
told-long [] (e ∷ cell) h = absurd h
told-long (texts ∷ lists) (None ∷ cell) h = omega (arith, told-long lists cell h)
told-long (texts ∷ lists) (Some code ∷ cell) h = omega (arith, told-long lists cell h.1)

-- a code is a place in its list
pub told-within : (lists : List (List Text)) (cell : Cell ℕ) (k code : ℕ) → HasTexts lists cell
    → Some code ≡ get_or cell k None → code < length (get_or lists k [])
told-within lists [] k code h e = cc
told-within [] (f ∷ cell) k code h e = absurd h
told-within (texts ∷ lists) (None ∷ cell) zero code h e = cc
told-within (texts ∷ lists) (Some c ∷ cell) zero code h e = let same : c ≡ code = cc in
    subst (λ n. n < length texts) same h.0
told-within (texts ∷ lists) (None ∷ cell) (suc k) code h e = told-within lists cell k code h e
told-within (texts ∷ lists) (Some c ∷ cell) (suc k) code h e = told-within lists cell k code h.1 e

-- one entry more
told-more : (lists : List (List Text)) (cell : Cell ℕ) (k : ℕ) → k < length cell → k < length lists
    → decoded_cell lists (take (suc k) cell) ≡ decoded_cell lists (take k cell)
    ++ option_map (text_of (get_or lists k [])) (get_or cell k None) ∷ []
told-more lists [] k l m = absurd (omega arith)
told-more [] (e ∷ cell) k l m = absurd (omega arith)
told-more (texts ∷ lists) (e ∷ cell) zero l m = refl
told-more (texts ∷ lists) (e ∷ cell) (suc k) l m
    = ap (λ (c : Cell Text). option_map (text_of texts) e ∷ c) (told-more lists cell k (omega arith) (omega arith))

entry-after : (cell : Cell Text) (e : Option Text)
    → fields_text (map entry_text (cell ++ e ∷ [])) ≡ fields_text (map entry_text cell) ++ 44 ∷ entry_text e
entry-after [] e = ap (λ (z : List ℕ). 44 ∷ z) (append-nil (entry_text e))
entry-after (f ∷ cell) e = ap (λ (z : List ℕ). 44 ∷ entry_text f ++ z) (entry-after cell e)
    ∙ ap (λ (z : List ℕ). 44 ∷ z) (sym (append_assoc (entry_text f) _ _))

pub told-after : (lists : List (List Text)) (cell : Cell ℕ) (k : ℕ) → k < length cell → HasTexts lists cell
    → fields_text (map entry_text (decoded_cell lists (take (k + 1) cell)))
    ≡ fields_text (map entry_text (decoded_cell lists (take k cell))) ++ 44
    ∷ entry_text (option_map (text_of (get_or lists k [])) (get_or cell k None))
told-after lists cell k l h =
    rw add-one (ap (λ (c : Cell Text). fields_text (map entry_text c))
    (told-more lists cell k l (omega (arith, told-long lists cell h)))
    ∙ entry-after (decoded_cell lists (take k cell)) (option_map (text_of (get_or lists k [])) (get_or cell k None)))

-- what is written of one item more
pub item-after : {X Y : Type 0} (text : Y → List ℕ) (f : X → Y) (xs : List X) (k : ℕ) (x : X) → slice_get xs k ≡ Some x
    → flat_map text (map f (take (k + 1) xs)) ≡ flat_map text (map f (take k xs)) ++ text (f x)
item-after {X} {Y} text f xs k x e = rw add-one (by xs k e)
  where
    some : {x y : X} → Some x ≡ Some y → x ≡ y
    some e = cc

    by : (xs : List X) (k : ℕ) → slice_get xs k ≡ Some x
        → flat_map text (map f (take (suc k) xs)) ≡ flat_map text (map f (take k xs)) ++ text (f x)
    by [] k e = cc
    by (y ∷ xs) zero e = append-nil (text (f y)) ∙ ap (λ (z : X). text (f z)) (some e)
    by (y ∷ xs) (suc k) e =
        ap (λ (z : List ℕ). text (f y) ++ z) (by xs k e)
        ∙ sym (append_assoc (text (f y)) (flat_map text (map f (take k xs))) (text (f x)))

pub told-text : (texts : List Text) (code : ℕ) (text : Text) → slice_get texts code ≡ Some text
    → text_of texts code ≡ text
told-text [] code text e = cc
told-text (t ∷ texts) zero text e = cc
told-text (t ∷ texts) (suc code) text e = told-text texts code text e
