-- Texts stay such as a dimension may have.
use Rattle.std.proofs.Common.{◌≡◌, ℕ, List, [], ◌∷◌, Bool, true, false, refl, is_some}
use Rattle.std.specs.Prelude.{fold}
use Rattle.std.specs.List.{All, AllByRecursion}
use Rattle.std.proofs.lemmas.List.Elements.{All-cons, All-head, All-nil, All-push, All-tail}
use Rattle.cube_defs.specs.Rows.{Row}
use Rattle.cube_defs.specs.Text.{Text}
use Rattle.csv_load.specs.Batch.{Batch, Change, Delete, Insert, IsBatch, IsChange, IsValue, inserted}
use Rattle.value_dict.specs.TextLists.{code_in, learnt_in}
use Rattle.warehouse.specs.Batch.{texts_after, with_row, with_tuple}

values-learnt : (texts : List Text) (text : Text) → All IsValue texts → IsValue text
    → All IsValue (learnt_in texts text)
values-learnt texts text all is = by (is_some (code_in texts text)) refl
  where
    by : (b : Bool) → is_some (code_in texts text) ≡ b → All IsValue (learnt_in texts text)
    by true e = rw e all
    by false e = rw e (All-push IsValue texts text all is)

values-tuple : (lists : List (List Text)) (tuple : List Text) → All (All IsValue) lists → All IsValue tuple
    → All (All IsValue) (with_tuple lists tuple)
values-tuple [] tuple all values = All-nil (All IsValue)
values-tuple (texts ∷ lists) [] all values = all
values-tuple (texts ∷ lists) (text ∷ tuple) all values =
    All-cons (All IsValue) (learnt_in texts text) (with_tuple lists tuple)
    (values-learnt texts text (All-head (All IsValue) texts lists all) (All-head IsValue text tuple values))
    (values-tuple lists tuple (All-tail (All IsValue) texts lists all) (All-tail IsValue text tuple values))

values-rows : (rows : List (Row Text)) (lists : List (List Text)) → All (All IsValue) lists
    → AllByRecursion (λ row. All IsValue row.tuple) rows → All (All IsValue) (fold with_row lists rows)
values-rows [] lists all values = all
values-rows (row ∷ rows) lists all values
    = values-rows rows (with_tuple lists row.tuple) (values-tuple lists row.tuple all values.0) values.1

inserted-values : (dims measures : ℕ) (changes : List (Change Text)) → All (IsChange dims measures) changes
    → AllByRecursion (λ row. All IsValue row.tuple) (inserted changes)
inserted-values dims measures [] all = tt
inserted-values dims measures (Delete id ∷ changes) all
    = inserted-values dims measures changes (All-tail (IsChange dims measures) (Delete id) changes all)
inserted-values dims measures (Insert row ∷ changes) all = (
  (All-head (IsChange dims measures) (Insert row) changes all).texts,
  inserted-values dims measures changes (All-tail (IsChange dims measures) (Insert row) changes all),
)

pub values-after : (batch : Batch) (lists : List (List Text)) → IsBatch batch → All (All IsValue) lists
    → All (All IsValue) (texts_after lists batch.changes)
values-after batch lists is all
    = values-rows (inserted batch.changes) lists all (inserted-values batch.dims batch.measures batch.changes is.loaded)
