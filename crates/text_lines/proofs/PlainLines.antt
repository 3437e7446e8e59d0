-- A line of plain fields is one record, and the other records are those of the text after the line.
use Rattle.std.proofs.Common.{◌≡◌, ◌∙◌, ℕ, List, [], ◌∷◌, ◌++◌, refl, sym, ap, arith, Some, true, Bool, append_assoc, append-nil}
use Rattle.std.specs.Prelude.{◌==◌, ◌&&◌, not}
use Rattle.std.specs.List.{list_all}
use Rattle.std.proofs.lemmas.Bool.{and_parts}
use Rattle.std.proofs.lemmas.Bool.Decides.{nat_tests}
use Rattle.csv.specs.Machine.{next_record, step}
use Rattle.csv.specs.Reading.{default_config, records}
use Rattle.csv.specs.declared.parser.Action.TheVariants as act
use Rattle.csv.specs.declared.parser.State.{State}
use Rattle.csv.specs.declared.parser.State.TheVariants as st
use Rattle.cube_defs.specs.Text.{Text}
use Rattle.text_lines.specs.Plain.{is_plain_byte}
use Rattle.text_lines.proofs.Records.{rest-found}

-- a byte that neither quotes nor ends a field
abbrev pub is_bare : ℕ → Bool
is_bare b = is_plain_byte b && not (b == 44)

-- fields, each with a comma before it
abbrev pub after_commas : List Text → List ℕ
after_commas [] = []
after_commas (field ∷ fields) = 44 ∷ field ++ after_commas fields

-- a state between two bytes of a line
record IsOpen (s : State) : Type 0 where
  byte : (b : ℕ) → is_bare b ≡ true → step default_config s b ≡ (st.InField, act.Copy)
  comma : step default_config s 44 ≡ (st.StartField, act.EndField)
  line-end : step default_config s 10 ≡ (st.StartRecord, act.EndRecord)

start-byte : (b : ℕ) → is_bare b ≡ true → step default_config st.StartRecord b ≡ (st.InField, act.Copy)
start-byte b h = grind (arith, nat_tests)

start-field : IsOpen st.StartField
start-field = record { byte = λ b h. grind (arith, nat_tests); comma = refl; line-end = refl }

in-field : IsOpen st.InField
in-field = record { byte = λ b h. grind (arith, nat_tests); comma = refl; line-end = refl }

module _ (rest : List ℕ) where
  -- the read of a text leaves the bytes after the line, and gives the field at hand with these fields after it
  abbrev Leaves : List ℕ → List Text → Type 0
  Leaves text fields = (s : State) → IsOpen s → (done : List Text) (field : Text)
      → next_record default_config s done field text ≡ Some (done ++ field ∷ fields, st.StartRecord, rest)

  field-read : (f tail : List ℕ) (fields : List Text) → Leaves tail fields → list_all is_bare f ≡ true → (s : State)
      → IsOpen s → (done : List Text) (field : Text)
      → next_record default_config s done field (f ++ tail)
      ≡ Some (done ++ (field ++ f) ∷ fields, st.StartRecord, rest)
  unfolding next_record
  field-read [] tail fields more bare s open-state done field = rw (append-nil field) (more s open-state done field)
  field-read (b ∷ bs) tail fields more bare s open-state done field =
      let p = and_parts (is_bare b) (list_all is_bare bs) bare in
      rw (open-state.byte b p.0) (field-read bs tail fields more p.1 st.InField in-field done (field ++ b ∷ [])
      ∙ ap (λ (f : Text). Some (done ++ f ∷ fields, st.StartRecord, rest)) (append_assoc field (b ∷ []) bs))

  fields-read : (fields : List Text) → list_all (list_all is_bare) fields ≡ true
      → Leaves (after_commas fields ++ 10 ∷ rest) fields
  unfolding next_record
  fields-read [] bare s open-state done field = rw open-state.line-end refl
  fields-read (f ∷ fs) bare s open-state done field =
      let p = and_parts (list_all is_bare f) (list_all (list_all is_bare) fs) bare in
      let tail = after_commas fs ++ 10 ∷ rest in
      rw (open-state.comma, append_assoc f (after_commas fs) (10 ∷ rest))
      (field-read f tail fs (fields-read fs p.1) p.0 st.StartField start-field (done ++ field ∷ []) []
      ∙ ap (λ (all : List Text). Some (all, st.StartRecord, rest)) (append_assoc done (field ∷ []) (f ∷ fs)))

  line-read : (b : ℕ) (bs : List ℕ) (fields : List Text) → list_all is_bare (b ∷ bs) ≡ true
      → list_all (list_all is_bare) fields ≡ true
      → next_record default_config st.StartRecord [] [] ((b ∷ bs) ++ (after_commas fields ++ 10 ∷ rest))
      ≡ Some ((b ∷ bs) ∷ fields, st.StartRecord, rest)
  unfolding next_record
  line-read b bs fields bare others =
      let p = and_parts (is_bare b) (list_all is_bare bs) bare in
      rw (start-byte b p.0) (field-read bs (after_commas fields ++ 10 ∷ rest) fields (fields-read fields others) p.1
      st.InField in-field [] (b ∷ []))

-- the first field of the line has bytes
pub line-record : (b : ℕ) (bs rest : List ℕ) (fields : List Text) → list_all is_bare (b ∷ bs) ≡ true
    → list_all (list_all is_bare) fields ≡ true
    → records default_config ((b ∷ bs) ++ (after_commas fields ++ 10 ∷ rest))
    ≡ ((b ∷ bs) ∷ fields) ∷ records default_config rest
line-record b bs rest fields bare others
    = (rest-found st.StartRecord ((b ∷ bs) ++ (after_commas fields ++ 10 ∷ rest))
    ((b ∷ bs) ∷ fields, st.StartRecord, rest) refl (line-read rest b bs fields bare others)).0
