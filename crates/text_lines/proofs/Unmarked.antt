-- What csv drops at the beginning of a text.
use Rattle.std.proofs.Common.{◌≡◌, ◌≤◌, arith, length, ◌∙◌, ℕ, List, [], ◌∷◌, refl, sym, ap, true, false, Bool, cond, eqb-true}
use Rattle.std.specs.Prelude.{◌&&◌, ◌==◌, drop}
use Rattle.std.proofs.lemmas.Bool.{and_parts}
use Rattle.std.proofs.lemmas.List.{length-drop}
use Rattle.csv.specs.Reading.{default_config, is_bom, records, strip_bom}
use Rattle.text_lines.specs.Lines.{begins_with_mark, begins_with_two_marks, without_mark}

is-mark : (a b c : ℕ) (rest : List ℕ) → is_bom a b c ≡ true → begins_with_mark (a ∷ b ∷ c ∷ rest) ≡ true
is-mark a b c rest h =
    let p = and_parts ((a == 0xEF) && (b == 0xBB)) (c == 0xBF) h in
    let q = and_parts (a == 0xEF) (b == 0xBB) p.0 in
    rw (eqb-true a 0xEF q.0, eqb-true b 0xBB q.1, eqb-true c 0xBF p.1) refl

-- where no mark stands before it, nothing is dropped
pub unmarked : (text : List ℕ) → begins_with_mark text ≡ false → strip_bom text ≡ text
unfolding strip_bom
unmarked [] e = refl
unmarked (a ∷ []) e = refl
unmarked (a ∷ b ∷ []) e = refl
unmarked (a ∷ b ∷ c ∷ rest) e = by (is_bom a b c) refl
  where
    by : (m : Bool) → is_bom a b c ≡ m → cond m rest (a ∷ b ∷ c ∷ rest) ≡ a ∷ b ∷ c ∷ rest
    by true m = absurd (cc (sym e ∙ is-mark a b c rest m))
    by false m = refl

-- so the records are those of the text as it stands
pub as_it_stands : (text : List ℕ) → begins_with_mark text ≡ false
    → records default_config (strip_bom text) ≡ records default_config text
as_it_stands text e = ap (records default_config) (unmarked text e)

-- no mark stands after the one that is dropped, where there aren't two
pub no_second : (text : List ℕ) → begins_with_two_marks text ≡ false → begins_with_mark (without_mark text) ≡ false
no_second text e = by (begins_with_mark text) refl e
  where
    by : (b : Bool) → begins_with_mark text ≡ b → (b && begins_with_mark (drop 3 text)) ≡ false
        → begins_with_mark (cond b (drop 3 text) text) ≡ false
    by true is m = m
    by false is m = is

-- no byte comes to a text
pub no_longer : (text : List ℕ) → length (without_mark text) ≤ length text
no_longer text = by (begins_with_mark text)
  where
    by : (b : Bool) → length (cond b (drop 3 text) text) ≤ length text
    by true = omega (arith, length-drop 3 text)
    by false = omega arith
