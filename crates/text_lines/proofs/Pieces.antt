-- A text without quotes and ends of lines is one record, the pieces between its commas.
use Rattle.std.proofs.Common.{◌≡◌, ◌≢◌, ◌<◌, ◌+◌, ◌∙◌, ℕ, zero, suc, List, [], ◌∷◌, ◌++◌, length, get_or, refl, sym, ap, arith, Some, None}
use Rattle.std.proofs.Common.{true, false, Bool, cond, append_assoc, append-nil}
use Rattle.std.specs.Borrow.{Bor}
use Rattle.std.specs.Prelude.{MatchOption, Option, ◌==◌}
use Rattle.std.specs.List.{list_all}
use Rattle.std.proofs.lemmas.Bool.{and_parts, eq-eqb, ne_eqb}
use Rattle.std.proofs.lemmas.Bool.Decides.{nat_tests}
use Rattle.std.proofs.lemmas.Str.Pattern.{IsSplitOnceResult, split_parts}
use Rattle.csv.specs.Machine.{ends_at_end, next_record, step}
use Rattle.csv.specs.Reading.{default_config, records, records_from}
use Rattle.csv.specs.declared.parser.Action.TheVariants as act
use Rattle.csv.specs.declared.parser.State.{State}
use Rattle.csv.specs.declared.parser.State.TheVariants as st
use Rattle.cube_defs.specs.Text.{Text}
use Rattle.text_lines.specs.Lines.{with_first}
use Rattle.text_lines.specs.Cuts.{cut_at}
use Rattle.text_lines.specs.Plain.{is_plain_byte, pieces}

-- ---- the machine

-- the bytes of a field before the first piece
abbrev behind : Text → List Text → List Text
behind field [] = field ∷ []
behind field (piece ∷ more) = (field ++ piece) ∷ more

after-nothing : (text : List ℕ) → behind [] (pieces text) ≡ pieces text
after-nothing [] = refl
after-nothing (b ∷ bs) = by (b == 44) (pieces bs)
  where
    by : (comma : Bool) (more : List Text)
        → behind [] (cond comma ([] ∷ more) (with_first b more)) ≡ cond comma ([] ∷ more) (with_first b more)
    by true more = refl
    by false [] = refl
    by false (piece ∷ more) = refl

after-byte : (field : Text) (b : ℕ) (more : List Text)
    → behind (field ++ b ∷ []) more ≡ behind field (with_first b more)
after-byte field b [] = refl
after-byte field b (piece ∷ more) = ap (λ (f : Text). f ∷ more) (append_assoc field (b ∷ []) piece)

-- a state between two bytes of a plain text
abbrev IsInside : State → Type 0
IsInside s = (b : ℕ) → is_plain_byte b ≡ true
    → step default_config s b ≡ cond (b == 44) (st.StartField, act.EndField) (st.InField, act.Copy)

start-record : IsInside st.StartRecord
start-record b h = grind (arith, nat_tests)

start-field : IsInside st.StartField
start-field b h = grind (arith, nat_tests)

in-field : IsInside st.InField
in-field b h = grind (arith, nat_tests)

-- the read of a plain text after the fields so far and the bytes of the field at hand
abbrev ReadsPieces : List ℕ → State → Type 0
ReadsPieces text s = (fields : List Text) (field : Text)
    → next_record default_config s fields field text ≡ Some (fields ++ behind field (pieces text), st.StartRecord, [])

reads-end : (s : State) → ends_at_end s ≡ true → ReadsPieces [] s
unfolding next_record
reads-end s e fields field = rw (e, append-nil field) refl

reads-byte : (b : ℕ) (bs : List ℕ) (s : State) → is_plain_byte b ≡ true → IsInside s → ReadsPieces bs st.StartField
    → ReadsPieces bs st.InField → ReadsPieces (b ∷ bs) s
unfolding next_record
reads-byte b bs s plain inside comma other fields field = by (b == 44) refl
  where
    by : (m : Bool) → (b == 44) ≡ m
        → next_record default_config s fields field (b ∷ bs) ≡ Some (
          fields ++ behind field (pieces (b ∷ bs)),
          st.StartRecord,
          [],
        )
    by true e =
        let before : (fields ++ field ∷ []) ++ behind [] (pieces bs) ≡ fields ++ (field ++ []) ∷ pieces bs =
        ap (λ (more : List Text). (fields ++ field ∷ []) ++ more) (after-nothing bs)
        ∙ append_assoc fields (field ∷ []) (pieces bs)
        ∙ ap (λ (f : Text). fields ++ f ∷ pieces bs) (sym (append-nil field)) in
        rw (inside b plain, e) (comma (fields ++ field ∷ []) []
        ∙ ap (λ (all : List Text). Some (all, st.StartRecord, [])) before)
    by false e =
        rw (inside b plain, e) (other fields (field ++ b ∷ [])
        ∙ ap (λ (more : List Text). Some (fields ++ more, st.StartRecord, [])) (after-byte field b (pieces bs)))

record ReadsInside (text : List ℕ) : Type 0 where
  start : ReadsPieces text st.StartField
  «in» : ReadsPieces text st.InField

reads-inside : (text : List ℕ) → list_all is_plain_byte text ≡ true → ReadsInside text
reads-inside [] plain = record { start = reads-end st.StartField refl; «in» = reads-end st.InField refl }
reads-inside (b ∷ bs) plain =
    let p = and_parts (is_plain_byte b) (list_all is_plain_byte bs) plain in
    let more = reads-inside bs p.1 in
    record {
      start = reads-byte b bs st.StartField p.0 start-field more.start more.«in»;
      «in»
          = reads-byte b bs st.InField p.0 in-field more.start more.«in»;
    }

-- ---- the records

none-after : (n : ℕ) → records_from default_config n st.StartRecord [] ≡ []
unfolding records_from next_record
none-after zero = refl
none-after (suc n) = refl

pub no-records : records default_config [] ≡ []
no-records = none-after 1

one-record : (n : ℕ) (text : List ℕ) (fields : List Text)
    → next_record default_config st.StartRecord [] [] text ≡ Some (fields, st.StartRecord, [])
    → records_from default_config (suc n) st.StartRecord text ≡ fields ∷ []
unfolding records_from
one-record n text fields e = rw e (ap (λ (more : List (List Text)). fields ∷ more) (none-after n))

pub plain-record : (b : ℕ) (bs : List ℕ) → list_all is_plain_byte (b ∷ bs) ≡ true
    → records default_config (b ∷ bs) ≡ pieces (b ∷ bs) ∷ []
plain-record b bs plain =
    let p = and_parts (is_plain_byte b) (list_all is_plain_byte bs) plain in
    let more = reads-inside bs p.1 in
    let read = reads-byte b bs st.StartRecord p.0 start-record more.start more.«in» [] [] in
    let whole = read ∙ ap (λ (all : List Text). Some (all, st.StartRecord, [])) (after-nothing (b ∷ bs)) in
    let size : length (b ∷ bs) + 1 ≡ suc (length (b ∷ bs)) = omega arith in
    rw size (one-record (length (b ∷ bs)) (b ∷ bs) (pieces (b ∷ bs)) whole)

-- ---- cutting at the first of some bytes

pub no-cut : (at : ℕ) (text : List ℕ) → ((i : ℕ) → i < length text → get_or text i 0 ≢ at) → cut_at at text ≡ text ∷ []
no-cut at [] none = refl
no-cut at (b ∷ bs) none = rw (ne_eqb b at (none 0 (omega arith)), no-cut at bs (λ i l. none (suc i) (omega arith))) refl

pub first-cut : (at : ℕ) (piece rest : List ℕ) → ((i : ℕ) → i < length piece → get_or piece i 0 ≢ at)
    → cut_at at (piece ++ at ∷ rest) ≡ piece ∷ cut_at at rest
first-cut at [] rest none = rw (eq-eqb at at refl) refl
first-cut at (b ∷ bs) rest none
    = rw (ne_eqb b at (none 0 (omega arith)), first-cut at bs rest (λ i l. none (suc i) (omega arith))) refl

pub split-cut : (at : ℕ) (text : List ℕ) (r : Option (Bor (List ℕ) × Bor (List ℕ))) → IsSplitOnceResult at text r
    → at < 128 → MatchOption r (cut_at at text ≡ text ∷ []) (λ x. cut_at at text ≡ x.0.now ∷ cut_at at x.1.now)
split-cut at text None h low = no-cut at text (split_parts at text None h (omega (arith, low)))
split-cut at text (Some x) h low =
    let p = split_parts at text (Some x) h (omega (arith, low)) in
    ap (cut_at at) p.0 ∙ first-cut at x.0.now x.1.now p.1
