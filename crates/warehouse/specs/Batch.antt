-- What a file of changes does to a state: the first refusal that holds, or the state after it.
use Rattle.std.specs.Prelude.{ℕ, suc, ◌+◌, ◌==◌, ◌&&◌, Bool, false, not, nat_lt, List, [], ◌∷◌, ◌++◌, length, filter, fold, position}
use Rattle.std.specs.Prelude.{Option, Some, None, option_map, Result, Ok, Err, if◌then◌else◌}
use Rattle.std.specs.List.{list_any}
use Rattle.cube_defs.specs.Text.{Text, text_cmp}
use Rattle.cube_defs.specs.Rows.{Row}
use Rattle.cube_defs.specs.Tree.{classes, nodes}
use Rattle.csv_load.specs.Files.{base_in, batch_in}
use Rattle.csv_load.specs.Batch.{Change, Delete, Insert, deleted, inserted}
use Rattle.csv_load.specs.Faults.{Fault}
use Rattle.value_dict.specs.TextLists.{learnt_in}
use Rattle.warehouse.specs.State.{State, ids_of}

-- a base file, or a batch of corrections
pub data FileUse : Type 0 where
  Load : FileUse
  Apply : FileUse

-- why a file is refused, in the order in which the causes are looked for
pub data Refusal : Type 0 where
  NotEmpty : Refusal
  File : Fault → Refusal
  Twice : ℕ → Refusal
  Missing : ℕ → Refusal
  Present : ℕ → Refusal
  RowsFull : Refusal
  ValuesFull : ℕ → Refusal
  NodesFull : Refusal

abbrev pub is_among : ℕ → List ℕ → Bool
is_among id ids = list_any (λ other. other == id) ids

module _ {A : Type 0} where
  -- the same operation on the same id
  abbrev pub same_change : Change A → Change A → Bool
  same_change (Delete id) (Delete other) = id == other
  same_change (Delete id) (Insert row) = false
  same_change (Insert row) (Delete id) = false
  same_change (Insert row) (Insert other) = row.id == other.id

  -- the number of the first change that stands among those before it, where the changes are counted from k
  abbrev pub twice_from : ℕ → List (Change A) → List (Change A) → Option ℕ
  twice_from k before [] = None
  twice_from k before (change ∷ changes) = if list_any (same_change change) before then Some k
      else twice_from (k + 1) (before ++ change ∷ []) changes

  abbrev pub first_twice : List (Change A) → Option ℕ
  first_twice changes = twice_from 1 [] changes

  -- the number, counted from 1, of the first change that passes
  abbrev pub first_number : (Change A → Bool) → List (Change A) → Option ℕ
  first_number test changes = option_map suc (position test changes)

  -- a deletion of an id that is none of these
  abbrev pub is_missing : List ℕ → Change A → Bool
  is_missing ids (Delete id) = not (is_among id ids)
  is_missing ids (Insert row) = false

  -- an insertion of an id that is one of these, and none of those that go
  abbrev pub is_present : List ℕ → List ℕ → Change A → Bool
  is_present ids gone (Delete id) = false
  is_present ids gone (Insert row) = is_among row.id ids && not (is_among row.id gone)

  -- the rows without those that are deleted, and after them those that are inserted
  abbrev pub rows_after : List (Row A) → List (Change A) → List (Row A)
  rows_after rows changes = filter (λ row. not (is_among row.id (deleted changes))) rows ++ inserted changes

-- each dimension's texts after those of a row are learnt
abbrev pub with_tuple : List (List Text) → List Text → List (List Text)
with_tuple [] tuple = []
with_tuple (texts ∷ lists) [] = texts ∷ lists
with_tuple (texts ∷ lists) (text ∷ tuple) = learnt_in texts text ∷ with_tuple lists tuple

abbrev pub with_row : List (List Text) → Row Text → List (List Text)
with_row lists row = with_tuple lists row.tuple

-- those of the inserted rows, in their order
abbrev pub texts_after : List (List Text) → List (Change Text) → List (List Text)
texts_after lists changes = fold with_row lists (inserted changes)

-- the first dimension with more than so many texts
abbrev pub full_dim : ℕ → List (List Text) → Option ℕ
full_dim max lists = position (λ texts. nat_lt max (length texts)) lists

-- the first, or else the second
abbrev pub or_else : Option Refusal → Option Refusal → Option Refusal
or_else None second = second
or_else (Some first) second = Some first

-- why changes are refused
abbrev pub refusal_of : State → List (Change Text) → Option Refusal
refusal_of s changes =
    or_else (option_map (λ k. Twice k) (first_twice changes))
    (or_else (option_map (λ k. Missing k) (first_number (is_missing (ids_of s.rows)) changes))
    (or_else (option_map (λ k. Present k) (first_number (is_present (ids_of s.rows) (deleted changes)) changes))
    (or_else (if nat_lt s.schema.rows (length (rows_after s.rows changes)) then Some RowsFull else None)
    (or_else (option_map (λ dim. ValuesFull dim) (full_dim s.schema.values (texts_after s.texts changes)))
    (if nat_lt s.schema.nodes (length (nodes text_cmp (rows_after s.rows changes))) then Some NodesFull else None)))))

-- the state after some changes
abbrev pub after : State → List (Change Text) → State
after s changes = record s { rows = rows_after s.rows changes; texts = texts_after s.texts changes }

-- how many records a file had, how many classes the rows have after it, and the state then
pub record Applied : Type 0 where
  pub records : ℕ
  pub classes : ℕ
  pub state : State

abbrev pub unless : Option Refusal → Applied → Result Applied Refusal
unless None applied = Ok applied
unless (Some refusal) applied = Err refusal

-- what these changes do, or the first fault of the file that should hold them
abbrev pub result_of : State → Result (List (Change Text)) Fault → Result Applied Refusal
result_of s (Err fault) = Err (File fault)
result_of s (Ok changes)
    = unless (refusal_of s changes)
    (record {
      records = length changes;
      classes = length (classes text_cmp (rows_after s.rows changes));
      state
          = after s changes;
    })

-- what a file does to a state; a base file is loaded only where there are no rows
abbrev pub result : State → FileUse → List ℕ → Result Applied Refusal
result s Load bytes = if length s.rows == 0 then result_of s (base_in s.schema bytes) else Err NotEmpty
result s Apply bytes = result_of s (batch_in s.schema bytes)
