-- The change that a record spells, and the changes of the records that are left.
use Rattle.std.proofs.Common.{◌≡◌, ◌≤◌, ◌+◌, ◌∙◌, ℕ, ℤ, Bool, List, [], ◌∷◌, ◌++◌, length, get_or, drop, refl, sym, ap, arith, Some, None}
use Rattle.std.proofs.Common.{true, false, append_assoc, cond}
use Rattle.std.specs.Prelude.{Option, Result, Ok, Err, ◌==◌}
use Rattle.std.specs.List.{All, list_all}
use Rattle.std.specs.Str.{is_utf8}
use Rattle.std.proofs.lemmas.Bool.{and_parts, eq-eqb, leb-true}
use Rattle.std.proofs.lemmas.List.{length-map}
use Rattle.std.proofs.lemmas.List.Elements.{All-cons}
use Rattle.std.proofs.lemmas.Str.{IsUtf8-from_is_utf8}
use Rattle.cube_defs.specs.Text.{Text}
use Rattle.aggregates.specs.Numbers.{id_in}
use Rattle.cube_defs.specs.declared.limits.TheConstants.{MAX_TEXT}
use Rattle.qc_schema.specs.Schema.{Layout}
use Rattle.csv_load.specs.Batch.{Change, Delete, Insert, IsChange, IsValue}
use Rattle.csv_load.specs.Columns.{fields_at}
use Rattle.csv_load.specs.Faults.{Fault, Fields, Utf8, Value, cons_ok}
use Rattle.csv_load.specs.Files.{Makes, amounts_of, change_in, change_of, change_with_id, changes_from, deletion_of, insertion, is_short}
use Rattle.csv_load.specs.Files.{tuple_of}
use Rattle.csv_load.proofs.Amounts.{amounts-are, id-small}
use Rattle.csv_load.proofs.Ranges.{length-range}
use Rattle.csv_load.proofs.Refusals.{ok_with}

-- the change of a record whose texts are UTF-8
pub change-text : (has_op : Bool) (layout : Layout) (width : ℕ) (places : List ℕ) (k : ℕ) (fields : List (List ℕ))
    → length fields ≡ width → list_all is_utf8 (tuple_of layout (fields_at places fields)) ≡ true
    → change_in has_op layout width places k fields
    ≡ change_with_id k (deletion_of has_op layout (fields_at places fields))
    (id_in (get_or (fields_at places fields) 0 [])) (tuple_of layout (fields_at places fields))
    (amounts_of layout (fields_at places fields))
change-text has_op layout width places k fields w e = rw (eq-eqb (length fields) width w, e) refl

-- an insertion, of these amounts and short texts
pub makes-insertion : (layout : Layout) (k : ℕ) (fields : List (List ℕ)) (deletes : Bool) (amounts : List ℤ)
    → deletes ≡ false → amounts_of layout fields ≡ Some amounts → list_all is_short (tuple_of layout fields) ≡ true
    → Makes layout k fields deletes amounts
makes-insertion layout k fields deletes amounts d a s id = rw (d, a, s) refl

-- ---- what is known of a good change

all-values : (texts : List Text) → list_all is_utf8 texts ≡ true → list_all is_short texts ≡ true → All IsValue texts
all-values [] g h = λ k d lt. absurd (omega arith)
all-values (t ∷ ts) g h =
    let p = and_parts (is_utf8 t) (list_all is_utf8 ts) g in
    let q = and_parts (is_short t) (list_all is_short ts) h in
    All-cons IsValue t ts (record { utf8 = IsUtf8-from_is_utf8 t p.0; short = leb-true (length t) MAX_TEXT q.0 })
    (all-values ts p.1 q.1)

is-same : (dims measures : ℕ) (a b : Change Text) → (let r : Result (Change Text) Fault = Ok a in r) ≡ Ok b
    → IsChange dims measures a → IsChange dims measures b
is-same dims measures a b e is =
    let same : a ≡ b = cc in
    rw (← same) is

good-insertion : (layout : Layout) (k : ℕ) (fields : List (List ℕ)) (id : ℕ) (amounts : Option (List ℤ))
    (change : Change Text) → length layout.dims + 1 ≤ length fields → id_in (get_or fields 0 []) ≡ Some id
    → list_all is_utf8 (tuple_of layout fields) ≡ true → amounts_of layout fields ≡ amounts
    → insertion k id (tuple_of layout fields) amounts ≡ Ok change
    → IsChange (length layout.dims) (length layout.measures) change
good-insertion layout k fields id None change many i u a e = absurd (cc e)
good-insertion layout k fields id (Some amounts) change many i u a e
    = by (list_all is_short (tuple_of layout fields)) refl e
  where
    by : (b : Bool) → list_all is_short (tuple_of layout fields) ≡ b
        → cond b (Ok (Insert (record { id = id; tuple = tuple_of layout fields; amounts = amounts })))
        (Err (Value k)) ≡ Ok change
        → IsChange (length layout.dims) (length layout.measures) change
    by false s m = absurd (cc m)
    by true s m =
        let are = amounts-are layout.measures (drop (1 + length layout.dims) fields) amounts a in
        is-same _ _ _ _ m
        (record {
          id = id-small (get_or fields 0 []) id i;
          tuple = length-range fields 1 (1 + length layout.dims) (omega arith) (omega arith) ∙ omega arith;
          texts = all-values (tuple_of layout fields) u s;
          amounts = are.0;
          small = are.1;
        })

good-with : (layout : Layout) (k : ℕ) (fields : List (List ℕ)) (kind : Option Bool) (id : Option ℕ)
    (change : Change Text) → length layout.dims + 1 ≤ length fields → id_in (get_or fields 0 []) ≡ id
    → list_all is_utf8 (tuple_of layout fields) ≡ true
    → change_with_id k kind id (tuple_of layout fields) (amounts_of layout fields) ≡ Ok change
    → IsChange (length layout.dims) (length layout.measures) change
good-with layout k fields None id change many i u e = absurd (cc e)
good-with layout k fields (Some true) None change many i u e = absurd (cc e)
good-with layout k fields (Some false) None change many i u e = absurd (cc e)
good-with layout k fields (Some true) (Some id) change many i u e
    = is-same _ _ (Delete id) change e (id-small (get_or fields 0 []) id i)
good-with layout k fields (Some false) (Some id) change many i u e
    = good-insertion layout k fields id (amounts_of layout fields) change many i u refl e

good-of : (has_op : Bool) (layout : Layout) (k : ℕ) (fields : List (List ℕ)) (change : Change Text)
    → length layout.dims + 1 ≤ length fields → change_of has_op layout k fields ≡ Ok change
    → IsChange (length layout.dims) (length layout.measures) change
good-of has_op layout k fields change many e = by (list_all is_utf8 (tuple_of layout fields)) refl e
  where
    by : (b : Bool) → list_all is_utf8 (tuple_of layout fields) ≡ b
        → cond b (change_with_id k (deletion_of has_op layout fields) (id_in (get_or fields 0 []))
        (tuple_of layout fields) (amounts_of layout fields)) (Err (Utf8 k)) ≡ Ok change
        → IsChange (length layout.dims) (length layout.measures) change
    by false u m = absurd (cc m)
    by true u m = good-with layout k fields (deletion_of has_op layout fields)
        (id_in (get_or fields 0 [])) change many refl u m

pub good-change : (has_op : Bool) (layout : Layout) (width : ℕ) (places : List ℕ) (k : ℕ) (fields : List (List ℕ))
    (change : Change Text) → 1 + length layout.dims ≤ length places
    → change_in has_op layout width places k fields ≡ Ok change
    → IsChange (length layout.dims) (length layout.measures) change
good-change has_op layout width places k fields change many e = by (length fields == width) e
  where
    by : (b : Bool) → cond b (change_of has_op layout k (fields_at places fields)) (Err (Fields k)) ≡ Ok change
        → IsChange (length layout.dims) (length layout.measures) change
    by false m = absurd (cc m)
    by true m = good-of has_op layout k (fields_at places fields) change
        (omega (arith, length-map places (λ place. get_or fields place []))) m

-- ---- the changes of the records that are left

pub with-more : (has_op : Bool) (layout : Layout) (width : ℕ) (places : List ℕ) (k : ℕ) (before : List (Change Text))
    (fields : List (List ℕ)) (left : List (List (List ℕ))) (change : Change Text)
    → change_in has_op layout width places k fields ≡ Ok change
    → ok_with before (changes_from has_op layout width places k (fields ∷ left)) ≡ ok_with (before ++ change ∷ [])
    (changes_from has_op layout width places (k + 1) left)
with-more has_op layout width places k before fields left change e
    = rw e (by (changes_from has_op layout width places (k + 1) left))
  where
    by : (o : Result (List (Change Text)) Fault)
        → ok_with before (cons_ok (Ok change) o) ≡ ok_with (before ++ change ∷ []) o
    by (Err fault) = refl
    by (Ok changes) = ap Ok (sym (append_assoc before (change ∷ []) changes))
