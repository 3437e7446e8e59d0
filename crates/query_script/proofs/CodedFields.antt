-- Fields that are read into codes.
use Rattle.std.proofs.Common.{◌≡◌, ◌<◌, ◌+◌, ◌∙◌, ℕ, zero, suc, Bool, true, false, List, [], ◌∷◌, ◌++◌, length, get_or, set, refl, sym, ap}
use Rattle.std.proofs.Common.{arith, Some, None, Ok, IsUtf8, ◌⊎◌, inl, inr}
use Rattle.std.specs.Prelude.{MatchOption, Option, option_map}
use Rattle.std.specs.Str.{is_utf8}
use Rattle.std.specs.List.{list_all}
use Rattle.std.proofs.lemmas.List.{length_push, get_or-set_other}
use Rattle.std.proofs.lemmas.Grind.{get_or-set_at}
use Rattle.std.proofs.lemmas.Str.{IsUtf8-append, IsUtf8-from_ascii, is_utf8-from_IsUtf8}
use Rattle.cube_defs.specs.Text.{Text}
use Rattle.cube_defs.specs.Cell.{Cell}
use Rattle.cell_core.specs.Entry.{value_in}
use Rattle.cell_core.specs.declared.cell.Entry.{Entry}
use Rattle.cell_core.specs.declared.fields.Field.{Field}
use Rattle.cell_core.specs.declared.fields.Field.TheVariants.{Any}
use Rattle.qc_schema.specs.Schema.{Layout}
use Rattle.text_lines.specs.Lines.{begins_with_mark}
use Rattle.text_lines.specs.Plain.{is_plain_byte, pieces}
use Rattle.value_dict.specs.TextLists.{entry_in}
use Rattle.value_dict.proofs.CallerLemmas.{cell_from_entries, entry_at, no_cell_at}
use Rattle.query_script.specs.Commands.{command_in, record_in}
use Rattle.query_script.specs.Fields.{field_of, fields_from}
use Rattle.query_script.specs.Progress.{asked_after}
use Rattle.query_script.specs.Questions.{Ask}
use Rattle.query_script.specs.Coded.{AreCoded, AskForCell, AsksByCodes, command_start, pieces_left, query_of}
use Rattle.query_script.specs.declared.coded.CellQuery.{CellQuery}
use Rattle.query_script.specs.declared.coded.CellQuery.TheVariants as queries
use Rattle.query_script.specs.declared.record.Shape.TheVariants as shapes
use Rattle.query_script.proofs.Asking.{asks_all, asks-first, asks-more}
use Rattle.query_script.proofs.Asked.{cell-fields}
use Rattle.query_script.proofs.PlainFields.{plain-fields}

abbrev pub ask : Text → Option Field
ask text = field_of shapes.Cell text

-- what is known of the fields so far: all their entries are in the cell, or one isn't there
abbrev pub IsSoFar : Bool → List (List Text) → List Field → Cell ℕ → Type 0
IsSoFar true lists before cell = (k : ℕ) → k < length before → entry_at lists before k ≡ Some (get_or cell k None)
IsSoFar false lists before cell = (k : ℕ) × (k < length before) × (entry_at lists before k ≡ None)

-- the fields that were read of these texts, and those that are left
pub record AreRead (lists : List (List Text)) (texts left : List Text) (dim : ℕ) (known : Bool)
    (cell : Cell ℕ) : Type 0 where
  pub before : List Field
  pub count : length before ≡ dim
  pub asks : asked_after ask (length lists) before left ≡ asked_after ask (length lists) [] texts
  pub so_far : IsSoFar known lists before cell

pub none-read : (lists : List (List Text)) (texts : List Text) (cell : Cell ℕ) → AreRead lists texts texts 0 true cell
none-read lists texts cell
    = record { before = []; count = refl; asks = refl; so_far = λ k lt. absurd (omega (arith, lt)) }

-- ---- one field more

get-prefix : (before : List Field) (field : Field) (k : ℕ) → k < length before
    → get_or (before ++ field ∷ []) k Any ≡ get_or before k Any
get-prefix [] field k lt = absurd (omega arith)
get-prefix (f ∷ before) field zero lt = refl
get-prefix (f ∷ before) field (suc k) lt = get-prefix before field k (omega arith)

get-last : (before : List Field) (field : Field) (k : ℕ) → k ≡ length before
    → get_or (before ++ field ∷ []) k Any ≡ field
get-last [] field zero e = refl
get-last (f ∷ before) field (suc k) e = get-last before field k (omega arith)
get-last _ field _ e = absurd (omega arith)

entry-prefix : (lists : List (List Text)) (before : List Field) (field : Field) (k : ℕ) → k < length before
    → entry_at lists (before ++ field ∷ []) k ≡ entry_at lists before k
entry-prefix lists before field k lt = ap (entry_in (get_or lists k [])) (get-prefix before field k lt)

entry-last : (lists : List (List Text)) (before : List Field) (field : Field) (k : ℕ) → k ≡ length before
    → entry_at lists (before ++ field ∷ []) k ≡ entry_in (get_or lists k []) field
entry-last lists before field k e = ap (entry_in (get_or lists k [])) (get-last before field k e)

-- where the entry is there, it is put into the cell
pub so_far-known : (known : Bool) (lists : List (List Text)) (before : List Field) (field : Field) (cell : Cell ℕ)
    (dim : ℕ) (v : Option ℕ) → length before ≡ dim → dim < length cell → entry_in (get_or lists dim []) field ≡ Some v
    → IsSoFar known lists before cell → IsSoFar known lists (before ++ field ∷ []) (set cell dim v)
so_far-known false lists before field cell dim v count low e (k, lt, none)
    = (k, omega (arith, lt, length_push before field), entry-prefix lists before field k lt ∙ none)
so_far-known true lists before field cell dim v count low e so_far = λ k lt. elim (split k lt) [
  | inl earlier ↦ entry-prefix lists before field k earlier ∙ so_far k earlier
      ∙ ap (λ (x : Option ℕ). Some x) (sym (get_or-set_other cell dim k v None (omega (arith, earlier, count))))
  | inr here ↦ entry-last lists before field k here ∙ ap (λ n. entry_in (get_or lists n []) field) (here ∙ count) ∙ e
      ∙ ap (λ (x : Option ℕ). Some x) (sym (get_or-set_at cell dim k v None (here ∙ count) low))
]
  where
    split : (k : ℕ) → k < length (before ++ field ∷ []) → (k < length before) ⊎ (k ≡ length before)
    split k lt = let more = length_push before field in grind arith

-- where it isn't there, the cell doesn't matter any more
pub so_far-unknown : (lists : List (List Text)) (before : List Field) (field : Field) (cell : Cell ℕ) (dim : ℕ)
    → length before ≡ dim → entry_in (get_or lists dim []) field ≡ None
    → IsSoFar false lists (before ++ field ∷ []) cell
so_far-unknown lists before field cell dim count e = (
  length before,
  omega (arith, length_push before field),
  entry-last lists before field (length before) refl
      ∙ ap (λ n. entry_in (get_or lists n []) field) count ∙ e,
)

-- what a field asks for, where its entry was looked up
pub record IsAllowed (list : List Text) (field : Option Field) (found : Option (Option ℕ)) : Type 0 where
  pub asked : Field
  pub is : field ≡ Some asked
  pub entry : entry_in list asked ≡ found

pub allowed : (list : List Text) (field : Option Field) (found : Option (Option ℕ))
    → Some found ≡ option_map (entry_in list) field → IsAllowed list field found
allowed list None found e = absurd (cc e)
allowed list (Some asked) found e = record { asked = asked; is = refl; entry = cc }

so_far-more : (known known2 : Bool) (lists : List (List Text)) (before : List Field) (field : Field)
    (cell cell2 : Cell ℕ) (dim : ℕ) (found : Option Entry) → length before ≡ dim → dim < length cell
    → entry_in (get_or lists dim []) field ≡ option_map value_in found
    → MatchOption found (known2 ≡ false) (λ entry. (known2 ≡ known) × (cell2 ≡ set cell dim (value_in entry)))
    → IsSoFar known lists before cell → IsSoFar known2 lists (before ++ field ∷ []) cell2
so_far-more known known2 lists before field cell cell2 dim None count low e h so_far
    = rw h (so_far-unknown lists before field cell2 dim count e)
so_far-more known known2 lists before field cell cell2 dim (Some entry) count low e h so_far
    = rw (h.0, h.1) (so_far-known known lists before field cell dim (value_in entry) count low e so_far)

-- one field more is read
pub one-more : (lists : List (List Text)) (texts : List Text) (known known2 more comma : Bool)
    (left field behind : List ℕ) (cell cell2 : Cell ℕ) (dim : ℕ) (found : Option Entry) → dim < length lists
    → length cell ≡ length lists → more ≡ true
    → pieces left ≡ field ∷ pieces_left comma behind
    → Some (option_map value_in found) ≡ option_map (entry_in (get_or lists dim [])) (ask field)
    → MatchOption found (known2 ≡ false) (λ entry. (known2 ≡ known) × (cell2 ≡ set cell dim (value_in entry)))
    → AreRead lists texts (pieces_left more left) dim known cell
    → AreRead lists texts (pieces_left comma behind) (dim + 1) known2 cell2
one-more lists texts known known2 more comma left field behind cell cell2 dim found low long some split e put read =
    let a = allowed (get_or lists dim []) (ask field) (option_map value_in found) e in
    let first : field ∷ pieces_left comma behind ≡ pieces_left more left = rw some (sym split) in
    record {
      before = read.before ++ a.asked ∷ [];
      count = omega (arith, length_push read.before a.asked, read.count);
      asks = asks-more ask (length lists) read.before a.asked field (pieces_left comma behind)
          (omega (arith, read.count, low)) a.is ∙ ap (asked_after ask (length lists) read.before) first ∙ read.asks;
      so_far = so_far-more known known2 lists read.before a.asked cell cell2 dim found read.count
          (omega (arith, long, low)) a.entry put read.so_far;
    }

-- ---- all fields

module _ (lists : List (List Text)) (texts left : List Text) (cell : Cell ℕ) (dim : ℕ) (known : Bool)
    (read : AreRead lists texts left dim known cell) (none : left ≡ []) (full : dim ≡ length lists) where
  count : length read.before ≡ length lists
  count = read.count ∙ full

  fields : fields_from ask 1 (length lists) texts ≡ Ok read.before
  fields = sym (asks-first ask (length lists) texts) ∙ sym read.asks
      ∙ ap (asked_after ask (length lists) read.before) none ∙ asks_all ask (length lists) read.before count

  pub all-read : length cell ≡ length lists → AreCoded (Some known) lists texts cell
  all-read long = by known read.so_far
    where
      by : (b : Bool) → IsSoFar b lists read.before cell → AreCoded (Some b) lists texts cell
      by true so_far = record {
        asked = read.before;
        fields = fields;
        codes
            = cell_from_entries lists read.before cell count long (λ k lt. so_far k (omega (arith, count, lt)));
      }
      by false (k, lt, missing) = record {
        asked = read.before;
        fields = fields;
        codes
            = no_cell_at lists read.before k (omega (arith, count, lt)) lt missing;
      }

-- ---- the line

start-ascii : (query : CellQuery) (i : ℕ) → get_or (command_start query) i 0 < 128
start-ascii queries.Point zero = omega arith
start-ascii queries.Point (suc zero) = omega arith
start-ascii queries.Point (suc (suc zero)) = omega arith
start-ascii queries.Point (suc (suc (suc zero))) = omega arith
start-ascii queries.Point (suc (suc (suc (suc zero)))) = omega arith
start-ascii queries.Point (suc (suc (suc (suc (suc zero))))) = omega arith
start-ascii queries.Point (suc (suc (suc (suc (suc (suc i)))))) = omega arith
start-ascii queries.Bounds zero = omega arith
start-ascii queries.Bounds (suc zero) = omega arith
start-ascii queries.Bounds (suc (suc zero)) = omega arith
start-ascii queries.Bounds (suc (suc (suc zero))) = omega arith
start-ascii queries.Bounds (suc (suc (suc (suc zero)))) = omega arith
start-ascii queries.Bounds (suc (suc (suc (suc (suc zero))))) = omega arith
start-ascii queries.Bounds (suc (suc (suc (suc (suc (suc zero)))))) = omega arith
start-ascii queries.Bounds (suc (suc (suc (suc (suc (suc (suc i))))))) = omega arith

line-utf8 : (query : CellQuery) (rest : List ℕ) → IsUtf8 rest → is_utf8 (command_start query ++ rest) ≡ true
line-utf8 query rest u = is_utf8-from_IsUtf8 (command_start query ++ rest)
    (IsUtf8-append (command_start query) rest (IsUtf8-from_ascii (command_start query) (start-ascii query)) u)

record-asked : (layout : Layout) (b : ℕ) (bs : List ℕ) (asked : List Field) → begins_with_mark (b ∷ bs) ≡ false
    → list_all is_plain_byte (b ∷ bs) ≡ true → fields_from ask 1 (length layout.dims) (pieces (b ∷ bs)) ≡ Ok asked
    → record_in shapes.Cell (length layout.dims) (b ∷ bs) ≡ Ok asked
record-asked layout b bs asked mark plain e = rw (mark, plain-fields b bs plain, e) refl

query-asks : (query : CellQuery) (layout : Layout) (b : ℕ) (bs : List ℕ) (asked : List Field) → IsUtf8 (b ∷ bs)
    → record_in shapes.Cell (length layout.dims) (b ∷ bs) ≡ Ok asked
    → command_in layout (command_start query ++ b ∷ bs) ≡ Ok (Ask (query_of query asked))
query-asks queries.Point layout b bs asked u e = rw (line-utf8 queries.Point (b ∷ bs) u, e) refl
query-asks queries.Bounds layout b bs asked u e = rw (line-utf8 queries.Bounds (b ∷ bs) u, e) refl

pub line-coded : (query : CellQuery) (layout : Layout) (lists : List (List Text)) (line rest : List ℕ)
    (found : Option (Cell ℕ)) → line ≡ command_start query ++ rest → 0 < length rest
    → length layout.dims ≡ length lists → IsUtf8 rest → begins_with_mark rest ≡ false
    → list_all is_plain_byte rest ≡ true → AskForCell lists (pieces rest) found
    → AsksByCodes query layout lists line found
line-coded query layout lists line [] found split some dims u mark plain h = absurd (omega arith)
line-coded query layout lists line (b ∷ bs) found split some dims u mark plain h =
    let fields : fields_from ask 1 (length layout.dims) (pieces (b ∷ bs)) ≡ Ok h.asked
    = ap (λ n. fields_from ask 1 n (pieces (b ∷ bs))) dims ∙ h.fields in
    let read = record-asked layout b bs h.asked mark plain fields in
    let are = cell-fields (length layout.dims) (b ∷ bs) h.asked read in
    record {
      asked = h.asked;
      command = ap (command_in layout) split ∙ query-asks query layout b bs h.asked u read;
      count = are.0;
      each = are.1;
      codes = h.codes;
    }
