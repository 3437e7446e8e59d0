-- The causes in their order, as the passes over a batch find them.
use Rattle.std.proofs.Common.{◌≡◌, ◌<◌, ◌≤◌, ◌+◌, ◌∙◌, ℕ, List, ◌++◌, Bool, true, false, Option, Some, None, length, map, nat_lt, refl, sym}
use Rattle.std.proofs.Common.{ap, ap₂, arith}
use Rattle.std.specs.Prelude.{Err, IfSome, Ok, option_map, not}
use Rattle.std.proofs.lemmas.List.{length-append}
use Rattle.cube_defs.specs.Rows.{Row}
use Rattle.cube_defs.specs.Text.{Text, text_cmp}
use Rattle.cube_defs.specs.Tree.{nodes}
use Rattle.csv_load.specs.Batch.{Change, Delete, Insert, deleted, inserted}
use Rattle.base_table.specs.Places.{Places, rows_of}
use Rattle.qc_schema.specs.Schema.{Layout}
use Rattle.value_dict.specs.TextLists.{TextLists}
use Rattle.warehouse.specs.Batch as batches
use Rattle.warehouse.specs.Batch.{Refusal, first_number, first_twice, full_dim, is_among, is_missing, is_present, or_else, refusal_of}
use Rattle.warehouse.specs.Batch.{result_of, rows_after, texts_after}
use Rattle.warehouse.specs.State.{State, ids_of}
use Rattle.warehouse.specs.Steps.{is_there, last_refusal}
use Rattle.warehouse.specs.Stored.{state_of}
use Rattle.value_dict.specs.Decoded.{decoded_row}
use Rattle.warehouse.proofs.Changes.{number-same}
use Rattle.warehouse.proofs.Decoding.{filter-decoded, ids-decoded, length-rows}
use Rattle.warehouse.specs.InPlace.{kept}
use Rattle.warehouse.proofs.Rows.{has-kept}

pub cause-twice : (changes : List (Change Text)) (k : ℕ) → first_twice changes ≡ Some k → (s : State)
    → refusal_of s changes ≡ Some (batches.Twice k)
cause-twice changes k twice s = rw twice refl

pub cause-missing : (s : State) (changes : List (Change Text)) (k : ℕ) → first_twice changes ≡ None
    → first_number (is_missing (ids_of s.rows)) changes ≡ Some k → refusal_of s changes ≡ Some (batches.Missing k)
cause-missing s changes k once missing = rw (once, missing) refl

pub missing-caused : (s : State) (changes : List (Change Text)) (named : Option Refusal) → first_twice changes ≡ None
    → IfSome named (λ refusal. option_map (λ (k : ℕ). batches.Missing k)
    (first_number (is_missing (ids_of s.rows)) changes) ≡ Some refusal)
    → IfSome named (λ refusal. refusal_of s changes ≡ Some refusal)
missing-caused s changes None once h = h
missing-caused s changes (Some refusal) once h = go (first_number (is_missing (ids_of s.rows)) changes) refl h
  where
    go : (o : Option ℕ) → first_number (is_missing (ids_of s.rows)) changes ≡ o
        → option_map (λ (k : ℕ). batches.Missing k) o ≡ Some refusal → refusal_of s changes ≡ Some refusal
    go None is e = let bad : None ≡ Some refusal = e in cc
    go (Some k) is e = cause-missing s changes k once is ∙ e

pub cause-present : (s : State) (changes : List (Change Text)) (k : ℕ) → first_twice changes ≡ None
    → first_number (is_missing (ids_of s.rows)) changes ≡ None
    → first_number (is_present (ids_of s.rows) (deleted changes)) changes ≡ Some k
    → refusal_of s changes ≡ Some (batches.Present k)
cause-present s changes k once there present = rw (once, there, present) refl

pub cause-rows : (s : State) (changes : List (Change Text)) → first_twice changes ≡ None
    → first_number (is_missing (ids_of s.rows)) changes ≡ None
    → first_number (is_present (ids_of s.rows) (deleted changes)) changes ≡ None
    → nat_lt s.schema.rows (length (rows_after s.rows changes)) ≡ true
    → refusal_of s changes ≡ Some batches.RowsFull
cause-rows s changes once there new full = rw (once, there, new, full) refl

cause-values : (s : State) (changes : List (Change Text)) → first_twice changes ≡ None
    → first_number (is_missing (ids_of s.rows)) changes ≡ None
    → first_number (is_present (ids_of s.rows) (deleted changes)) changes ≡ None
    → nat_lt s.schema.rows (length (rows_after s.rows changes)) ≡ false
    → refusal_of s changes ≡ or_else
    (option_map (λ dim. batches.ValuesFull dim) (full_dim s.schema.values (texts_after s.texts changes)))
    (last_refusal s changes)
cause-values s changes once there new room = rw (once, there, new, room) refl

-- what is named is the first cause, where those before it aren't there
pub caused : (s : State) (changes : List (Change Text)) (named first : Option Refusal)
    → refusal_of s changes ≡ or_else first (last_refusal s changes)
    → IfSome named (λ refusal. first ≡ Some refusal) → IfSome named (λ refusal. refusal_of s changes ≡ Some refusal)
caused s changes None first is h = h
caused s changes (Some refusal) first is h = is ∙ ap (λ (o : Option Refusal). or_else o (last_refusal s changes)) h

-- what is caused so is the answer
pub refused-so : (s : State) (changes : List (Change Text)) (named : Option Refusal)
    → IfSome named (λ refusal. refusal_of s changes ≡ Some refusal)
    → IfSome named (λ refusal. result_of s (Ok changes) ≡ Err refusal)
refused-so s changes None h = h
refused-so s changes (Some refusal) h = rw h refl

-- these ids are those of the rows with their texts
pub missing-decoded : (lists : List (List Text)) (rows : List (Row ℕ)) (changes : List (Change Text))
    → first_number (is_missing (ids_of (map (decoded_row lists) rows))) changes
    ≡ first_number (is_missing (ids_of rows)) changes
missing-decoded lists rows changes
    = ap (λ (ids : List ℕ). first_number (is_missing ids) changes) (ids-decoded lists rows)

pub present-decoded : (lists : List (List Text)) (rows rows' : List (Row ℕ)) (changes : List (Change Text))
    → rows' ≡ kept (deleted changes) rows
    → first_number (is_present (ids_of (map (decoded_row lists) rows)) (deleted changes)) changes
    ≡ first_number (is_there rows') changes
present-decoded lists rows rows' changes left =
    ap (λ (ids : List ℕ). first_number (is_present ids (deleted changes)) changes) (ids-decoded lists rows)
    ∙ number-same (is_present (ids_of rows) (deleted changes)) (is_there (kept (deleted changes) rows)) changes same
    ∙ ap (λ (rs : List (Row ℕ)). first_number (is_there rs) changes) (sym left)
  where
    same : (c : Change Text) → is_present (ids_of rows) (deleted changes) c ≡ is_there (kept (deleted changes) rows) c
    same (Delete id) = refl
    same (Insert row) = sym (has-kept rows (deleted changes) row.id)

-- what is left, and what comes
pub rows-decoded : (lists : List (List Text)) (rows rows' : List (Row ℕ)) (changes : List (Change Text))
    → rows' ≡ kept (deleted changes) rows
    → rows_after (map (decoded_row lists) rows) changes ≡ map (decoded_row lists) rows' ++ inserted changes
rows-decoded lists rows rows' changes left =
    ap (λ (rs : List (Row Text)). rs ++ inserted changes)
    (filter-decoded (λ id. not (is_among id (deleted changes))) lists rows ∙ ap (map (decoded_row lists)) (sym left))

pub count-decoded : (lists : List (List Text)) (rows rows' : List (Row ℕ)) (changes : List (Change Text))
    → rows' ≡ kept (deleted changes) rows → length (rows_after (map (decoded_row lists) rows) changes) ≡ length rows'
    + length (inserted changes)
count-decoded lists rows rows' changes left =
    ap (λ (rs : List (Row Text)). length rs) (rows-decoded lists rows rows' changes left)
    ∙ length-append (map (decoded_row lists) rows') (inserted changes)
    ∙ ap (λ (n : ℕ). n + length (inserted changes)) (length-rows lists rows')

-- what is left where only texts and nodes can be too many
pub passed : (schema : Layout) (dict : TextLists) (table left : Places) (changes : List (Change Text))
    (present : Option ℕ) (most : ℕ) (full : Bool)
    → first_twice changes ≡ None → first_number (is_missing (ids_of (rows_of table))) changes ≡ None
    → rows_of left ≡ kept (deleted changes) (rows_of table)
    → present ≡ first_number (is_there (rows_of left)) changes → present ≡ None → most ≡ schema.rows
    → full ≡ nat_lt most (length (rows_of left) + length (inserted changes)) → full ≡ false
    → refusal_of (state_of schema dict table) changes
    ≡ or_else (option_map (λ dim. batches.ValuesFull dim) (full_dim schema.values (texts_after dict.lists changes)))
    (last_refusal (state_of schema dict table) changes)
passed schema dict table left changes present most full once none rows is_present new is_most is_full room =
    cause-values (state_of schema dict table) changes once
    (missing-decoded dict.lists (rows_of table) changes ∙ none)
    (present-decoded dict.lists (rows_of table) (rows_of left) changes rows ∙ sym is_present ∙ new)
    (ap₂ nat_lt (sym is_most) (count-decoded dict.lists (rows_of table) (rows_of left) changes rows)
    ∙ sym is_full ∙ room)

-- whether there are too many nodes, by those of the rows after the changes
module _ (s : State) (changes : List (Change Text)) (rows : List (Row Text)) (count : ℕ)
    (are : rows ≡ rows_after s.rows changes) (is : count ≡ length (nodes text_cmp rows)) where
  is-over : nat_lt s.schema.nodes (length (nodes text_cmp (rows_after s.rows changes))) ≡ nat_lt s.schema.nodes count
  is-over = ap (λ (rs : List (Row Text)). nat_lt s.schema.nodes (length (nodes text_cmp rs))) (sym are)
      ∙ ap (nat_lt s.schema.nodes) (sym is)

  pub last-none : count ≤ s.schema.nodes → last_refusal s changes ≡ None
  last-none fits =
      let test : nat_lt s.schema.nodes count ≡ false = grind (arith, fits) in
      rw (is-over, test) refl

  pub last-full : s.schema.nodes < count → last_refusal s changes ≡ Some batches.NodesFull
  last-full over =
      let test : nat_lt s.schema.nodes count ≡ true = grind (arith, over) in
      rw (is-over, test) refl
