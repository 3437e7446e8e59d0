-- A base file has only insertions, and no fault in an op.
use Rattle.std.proofs.Common.{◌≡◌, ◌+◌, ℕ, ℤ, Bool, true, false, cond, List, [], ◌∷◌, length, get_or, refl, arith, Some, None, subst}
use Rattle.std.specs.Prelude.{Option, Result, Ok, Err, IfErr, IfOk, IfSome, ◌==◌}
use Rattle.std.specs.List.{list_all}
use Rattle.std.specs.Str.{is_utf8}
use Rattle.std.proofs.lemmas.List.Elements.{All-cons}
use Rattle.csv.specs.Reading.{default_config, records}
use Rattle.cube_defs.specs.Text.{Text}
use Rattle.cell_core.specs.Gives.{Gives}
use Rattle.aggregates.specs.Numbers.{id_in}
use Rattle.qc_schema.specs.Schema.{Layout, names_of}
use Rattle.csv_load.specs.Batch.{AreInsertions, Batch, Change, Insert, is_deletion}
use Rattle.csv_load.specs.Columns.{fields_at, places_in}
use Rattle.csv_load.specs.Faults.{Fault, fault_in, Header, Fields, Utf8, Op, Value, cons_ok}
use Rattle.csv_load.specs.Files.{amounts_of, base_in, change_in, change_of, change_with_id, changes_from, changes_of, changes_under}
use Rattle.csv_load.specs.Files.{insertion, is_short, tuple_of}
use Rattle.text_lines.specs.Lines.{begins_with_two_marks, without_mark}
use Rattle.csv_load.specs.declared.files.LoadRefused.{LoadRefused}
use Rattle.csv_load.specs.declared.files.LoadRefused.TheVariants as refusals

-- what is read meets a claim, or the fault is none of an op
abbrev Reads : {X : Type 0} → (X → Type 0) → Result X Fault → Type 0
Reads P (Ok x) = P x
Reads P (Err fault) = (n : ℕ) → fault ≡ Op n → ⊥

abbrev IsInsertion : Change Text → Type 0
IsInsertion change = is_deletion change ≡ false

reads-insertion : (k id : ℕ) (tuple : List Text) (amounts : Option (List ℤ))
    → Reads IsInsertion (insertion k id tuple amounts)
reads-insertion k id tuple None = λ n e. absurd (cc e)
reads-insertion k id tuple (Some amounts) = by (list_all is_short tuple)
  where
    by : (b : Bool) → Reads IsInsertion (cond b (Ok (Insert (record { id = id; tuple = tuple; amounts = amounts })))
        (Err (Value k)))
    by true = refl
    by false = λ n e. absurd (cc e)

reads-with : (k : ℕ) (id : Option ℕ) (tuple : List Text) (amounts : Option (List ℤ))
    → Reads IsInsertion (change_with_id k (Some false) id tuple amounts)
reads-with k None tuple amounts = λ n e. absurd (cc e)
reads-with k (Some id) tuple amounts = reads-insertion k id tuple amounts

reads-of : (layout : Layout) (k : ℕ) (fields : List (List ℕ)) → Reads IsInsertion (change_of false layout k fields)
reads-of layout k fields = by (list_all is_utf8 (tuple_of layout fields))
  where
    by : (b : Bool) → Reads IsInsertion
        (cond b (change_with_id k (Some false) (id_in (get_or fields 0 [])) (tuple_of layout fields)
        (amounts_of layout fields)) (Err (Utf8 k)))
    by true = reads-with k (id_in (get_or fields 0 [])) (tuple_of layout fields) (amounts_of layout fields)
    by false = λ n e. absurd (cc e)

reads-in : (layout : Layout) (width : ℕ) (places : List ℕ) (k : ℕ) (fields : List (List ℕ))
    → Reads IsInsertion (change_in false layout width places k fields)
reads-in layout width places k fields = by (length fields == width)
  where
    by : (b : Bool) → Reads IsInsertion (cond b (change_of false layout k (fields_at places fields)) (Err (Fields k)))
    by true = reads-of layout k (fields_at places fields)
    by false = λ n e. absurd (cc e)

reads-cons : (first : Result (Change Text) Fault) (more : Result (List (Change Text)) Fault) → Reads IsInsertion first
    → Reads AreInsertions more → Reads AreInsertions (cons_ok first more)
reads-cons (Err fault) more p q = p
reads-cons (Ok x) (Err fault) p q = q
reads-cons (Ok x) (Ok xs) p q = All-cons IsInsertion x xs p q

reads-from : (left : List (List (List ℕ))) (layout : Layout) (width : ℕ) (places : List ℕ) (k : ℕ)
    → Reads AreInsertions (changes_from false layout width places k left)
reads-from [] layout width places k = λ i d lt. absurd (omega arith)
reads-from (fields ∷ left) layout width places k =
    reads-cons (change_in false layout width places k fields) (changes_from false layout width places (k + 1) left)
    (reads-in layout width places k fields) (reads-from left layout width places (k + 1))

reads-under : (layout : Layout) (width : ℕ) (places : Option (List ℕ)) (left : List (List (List ℕ)))
    → Reads AreInsertions (changes_under false layout width places left)
reads-under layout width None left = λ n e. absurd (cc e)
reads-under layout width (Some places) left = reads-from left layout width places 1

reads-all : (layout : Layout) (all : List (List (List ℕ))) → Reads AreInsertions (changes_of false layout all)
reads-all layout [] = λ n e. absurd (cc e)
reads-all layout (header ∷ left) = reads-under layout (length header) (places_in header (names_of layout)) left

reads-base : (layout : Layout) (text : List ℕ) → Reads AreInsertions (base_in layout text)
reads-base layout text = by (begins_with_two_marks text)
  where
    by : (b : Bool) → Reads AreInsertions
        (cond b (Err Header) (changes_of false layout (records default_config (without_mark text))))
    by true = λ n e. absurd (cc e)
    by false = reads-all layout (records default_config (without_mark text))

pub no-op : (result : Result Batch LoadRefused) (layout : Layout) (text : List ℕ)
    → Gives fault_in (λ batch. batch.changes) result (base_in layout text)
    → IfErr result (λ refused. (k : ℕ) → refused ≡ refusals.Op k → ⊥)
no-op (Ok batch) layout text gives = tt
no-op (Err refused) layout text gives = λ k e.
    let P : LoadRefused → Type 0 = λ r. IfSome (fault_in r) (λ fault. base_in layout text ≡ Err fault) in
    let fails : base_in layout text ≡ Err (Op k) = subst P e gives in
    let Q : Result (List (Change Text)) Fault → Type 0 = λ read. Reads AreInsertions read in
    let never : (n : ℕ) → Op k ≡ Op n → ⊥ = subst Q fails (reads-base layout text) in
    never k refl

pub insertions : (result : Result Batch LoadRefused) (layout : Layout) (text : List ℕ)
    → Gives fault_in (λ batch. batch.changes) result (base_in layout text)
    → IfOk result (λ batch. AreInsertions batch.changes)
insertions (Ok batch) layout text gives =
    let Q : Result (List (Change Text)) Fault → Type 0 = λ read. Reads AreInsertions read in
    subst Q gives (reads-base layout text)
insertions (Err refused) layout text gives = tt
