-- The records of the generated files.
use Rattle.std.proofs.Common.{◌≡◌, ◌∙◌, ℕ, ◌+◌, ◌^◌, ◌<◌, List, [], ◌∷◌, ◌++◌, length, refl, sym, ap, arith, true}
use Rattle.std.proofs.Common.{append_assoc, append-nil, decimal}
use Rattle.std.specs.Prelude.{codes}
use Rattle.std.specs.List.{list_all}
use Rattle.std.proofs.lemmas.Bool.{and_from}
use Rattle.std.proofs.lemmas.Fmt.{decimal_nonempty}
use Rattle.csv.specs.Reading.{default_config, records}
use Rattle.aggregates.specs.Texts.{amount_text}
use Rattle.cube_defs.specs.Text.{Text}
use Rattle.text_lines.proofs.CallerLemmas.{after_commas, is_bare, line-record}
use Rattle.row_generator.specs.Drawn.{drawn_tuple}
use Rattle.row_generator.specs.Generator.{after_draws, amount_of, deletion_text, drawn_value, row_text}
use Rattle.row_generator.proofs.Fields.{IsField, amount-bare, amount-small, decimal-bare, drawn-field}

-- the fields of a row after its id
abbrev pub row_fields : ℕ → ℕ → List Text
row_fields id s = drawn_tuple s ++ amount_text 2 (amount_of id) ∷ []

abbrev pub empty_fields : List Text
empty_fields = [] ∷ [] ∷ [] ∷ [] ∷ [] ∷ [] ∷ []

pub record AreFields (s : ℕ) : Type 0 where
  pub a : IsField (drawn_value 97 40 s)
  pub b : IsField (drawn_value 98 20 (after_draws 1 s))
  pub c : IsField (drawn_value 99 10 (after_draws 2 s))
  pub d : IsField (drawn_value 100 5 (after_draws 3 s))
  pub e : IsField (drawn_value 101 4 (after_draws 4 s))

pub drawn-fields : (s : ℕ) → AreFields s
drawn-fields s = record {
  a = drawn-field 97 40 s (omega arith) refl (omega arith) (omega arith);
  b = drawn-field 98 20 (after_draws 1 s) (omega arith) refl (omega arith) (omega arith);
  c = drawn-field 99 10 (after_draws 2 s) (omega arith) refl (omega arith) (omega arith);
  d = drawn-field 100 5 (after_draws 3 s) (omega arith) refl (omega arith) (omega arith);
  e = drawn-field 101 4 (after_draws 4 s) (omega arith) refl (omega arith) (omega arith);
}

fields-bare : (id s : ℕ) → list_all (list_all is_bare) (row_fields id s) ≡ true
fields-bare id s =
    let f = drawn-fields s in
    rw (f.a.bare, f.b.bare, f.c.bare, f.d.bare, f.e.bare, amount-bare (amount_of id) (amount-small id)) refl

-- ---- a record and the bytes after it

six : (u a b c d e m rest : List ℕ)
    → (u ++ (44 ∷ a ++ 44 ∷ b ++ 44 ∷ c ++ 44 ∷ d ++ 44 ∷ e) ++ 44 ∷ m ++ 10 ∷ []) ++ rest
    ≡ u ++ (after_commas (a ∷ b ∷ c ∷ d ∷ e ∷ m ∷ []) ++ 10 ∷ rest)
six u a b c d e m rest = simp (append_assoc, append-nil) refl

pub row-line : (id s : ℕ) (rest : List ℕ)
    → row_text id s ++ rest ≡ decimal id ++ (after_commas (row_fields id s) ++ 10 ∷ rest)
unfolding row_text
row-line id s rest
    = six (decimal id) (drawn_value 97 40 s) (drawn_value 98 20 (after_draws 1 s))
    (drawn_value 99 10 (after_draws 2 s)) (drawn_value 100 5 (after_draws 3 s)) (drawn_value 101 4 (after_draws 4 s))
    (amount_text 2 (amount_of id)) rest

-- the same of a first field that has bytes
pub some-record : (field rest : List ℕ) (fields : List Text) → 0 < length field → list_all is_bare field ≡ true
    → list_all (list_all is_bare) fields ≡ true
    → records default_config (field ++ (after_commas fields ++ 10 ∷ rest))
    ≡ (field ∷ fields) ∷ records default_config rest
some-record [] rest fields some bare others = absurd (omega (arith, some))
some-record (b ∷ bs) rest fields some bare others = line-record b bs rest fields bare others

-- the record of a row of the base file
pub base-record : (id s : ℕ) (rest : List ℕ) → id < 2 ^ 64
    → records default_config (([] ++ row_text id s) ++ rest)
    ≡ (decimal id ∷ row_fields id s) ∷ records default_config rest
base-record id s rest h = ap (records default_config) (row-line id s rest)
    ∙ some-record (decimal id) rest (row_fields id s) (decimal_nonempty id h) (decimal-bare id h) (fields-bare id s)

-- that of a row of a batch
pub batch-record : (id s : ℕ) (rest : List ℕ) → id < 2 ^ 64
    → records default_config ((codes "+," ++ row_text id s) ++ rest)
    ≡ (codes "+" ∷ decimal id ∷ row_fields id s) ∷ records default_config rest
batch-record id s rest h =
    ap (λ (text : List ℕ). records default_config (43 ∷ 44 ∷ text)) (row-line id s rest
    ∙ sym (append_assoc (decimal id) (after_commas (row_fields id s)) (10 ∷ rest)))
    ∙ line-record 43 [] rest (decimal id ∷ row_fields id s) refl
    (and_from (list_all is_bare (decimal id)) (list_all (list_all is_bare) (row_fields id s)) (decimal-bare id h)
    (fields-bare id s))

-- that of a deletion
pub deletion-record : (id : ℕ) (rest : List ℕ) → id < 2 ^ 64
    → records default_config (deletion_text id ++ rest)
    ≡ (codes "-" ∷ decimal id ∷ empty_fields) ∷ records default_config rest
deletion-record id rest h =
    ap (λ (text : List ℕ). records default_config (45 ∷ 44 ∷ text))
    (append_assoc (decimal id) (after_commas empty_fields ++ 10 ∷ []) rest
    ∙ sym (append_assoc (decimal id) (after_commas empty_fields) (10 ∷ rest)))
    ∙ line-record 45 [] rest (decimal id ∷ empty_fields) refl
    (and_from (list_all is_bare (decimal id)) (list_all (list_all is_bare) empty_fields) (decimal-bare id h) refl)
