-- A batch of changes as contracts see it.
use Rattle.std.specs.Prelude.{◌≡◌, ◌≤◌, ◌<◌, ◌^◌, ◌-◌, ◌*◌, ◌+◌, ℕ, Bool, true, false, List, [], ◌∷◌, ◌++◌, length, ℤ, pos, nat_abs, map}
use Rattle.std.specs.Prelude.{slice_index, slice_index_or, slice_range, IsUtf8}
use Rattle.std.specs.List.{All, range_with_len}
use Rattle.cube_defs.specs.Rows.{Row}
use Rattle.cube_defs.specs.Text.{Text}
use Rattle.csv_load.specs.declared.changes.ChangeColumns.{ChangeColumns}
use Rattle.cube_defs.specs.declared.limits.TheConstants.{MAX_AMOUNT, MAX_TEXT}

-- the row with an id goes, or a row comes
pub data Change (A : Type 0) : Type 0 where
  Delete : ℕ → Change A
  Insert : Row A → Change A

-- changes that are not yet made to a table, each row with as many texts as there are dimensions, and as many amounts as
-- measures
pub record Batch : Type 0 where
  pub dims : ℕ
  pub measures : ℕ
  pub changes : List (Change Text)

module _ {A : Type 0} where
  -- whether a row goes
  abbrev pub is_deletion : Change A → Bool
  is_deletion (Delete id) = true
  is_deletion (Insert row) = false

  -- the id that goes or comes
  abbrev pub id_of : Change A → ℕ
  id_of (Delete id) = id
  id_of (Insert row) = row.id

  -- the row that comes; with a deletion none does
  abbrev pub row_of : Change A → Row A
  row_of (Delete id) = record { id = id; tuple = []; amounts = [] }
  row_of (Insert row) = row

  -- the rows of the insertions, in their order
  abbrev pub inserted : List (Change A) → List (Row A)
  inserted [] = []
  inserted (Delete id ∷ changes) = inserted changes
  inserted (Insert row ∷ changes) = row ∷ inserted changes

  -- the ids of the deletions, in their order
  abbrev pub deleted : List (Change A) → List ℕ
  deleted [] = []
  deleted (Delete id ∷ changes) = id ∷ deleted changes
  deleted (Insert row ∷ changes) = deleted changes

  -- no row goes
  abbrev pub AreInsertions : List (Change A) → Type 0
  AreInsertions changes = All (λ change. is_deletion change ≡ false) changes

  -- the k-th change, counted from 1
  abbrev pub change_at : List (Change A) → ℕ → Change A
  change_at changes k = slice_index_or changes (k - 1) (Delete 0)

  -- the deletion of a row's id, or the insertion of the row
  abbrev pub change_with : Bool → Row A → Change A
  change_with true row = Delete row.id
  change_with false row = Insert row

-- there is a k-th change, counted from 1
pub record HasChange (changes : List (Change Text)) (k : ℕ) : Type 0 where
  pub first : 1 ≤ k
  pub last : k ≤ length changes

-- it is there, and is an insertion
pub record HasInsertion (changes : List (Change Text)) (k : ℕ) : Type 0 where
  pub there : HasChange changes k
  pub inserts : is_deletion (change_at changes k) ≡ false

-- the text in a dimension, counted from 0, of the k-th change
abbrev pub text_at : List (Change Text) → ℕ → ℕ → Text
text_at changes k dim = slice_index_or (row_of (change_at changes k)).tuple dim []

-- its amount in a measure, counted from 0
abbrev pub amount_at : List (Change Text) → ℕ → ℕ → ℤ
amount_at changes k measure = slice_index_or (row_of (change_at changes k)).amounts measure (pos 0)

-- a text that a dimension may have
pub record IsValue (text : Text) : Type 0 where
  pub utf8 : IsUtf8 text
  pub short : length text ≤ MAX_TEXT

-- no larger than an amount may be
abbrev pub IsSmall : ℤ → Type 0
IsSmall amount = nat_abs amount ≤ MAX_AMOUNT

-- a row of a batch with so many dimensions and measures
pub record IsLoaded (dims measures : ℕ) (row : Row Text) : Type 0 where
  pub id : row.id < 2 ^ 64
  pub tuple : length row.tuple ≡ dims
  pub texts : All IsValue row.tuple
  pub amounts : length row.amounts ≡ measures
  pub small : All IsSmall row.amounts

-- a change of such a batch
abbrev pub IsChange : ℕ → ℕ → Change Text → Type 0
IsChange dims measures (Delete id) = id < 2 ^ 64
IsChange dims measures (Insert row) = IsLoaded dims measures row

-- its changes are such ones, and a u32 counts them
pub record IsBatch (batch : Batch) : Type 0 where
  pub few : length batch.changes < 2 ^ 32
  pub loaded : All (IsChange batch.dims batch.measures) batch.changes

-- the row at a place, counted from 0, of changes that lie one after the other; of a deletion it says the id alone
abbrev pub row_at_place : ℕ → ℕ → ChangeColumns → ℕ → Row Text
row_at_place dims measures changes k = record {
  id = slice_index changes.ids.items k;
  tuple = slice_range changes.texts (k * dims) (k * dims + dims);
  amounts = slice_range changes.amounts.items (k * measures) (k * measures + measures);
}

-- the change at that place
abbrev pub change_at_place : ℕ → ℕ → ChangeColumns → ℕ → Change Text
change_at_place dims measures changes k
    = change_with (slice_index_or changes.deletes.items k false) (row_at_place dims measures changes k)

-- all of them, as a batch
abbrev pub batch_of : ℕ → ℕ → ChangeColumns → Batch
batch_of dims measures changes
    = record {
      dims = dims;
      measures = measures;
      changes
          = map (change_at_place dims measures changes) (range_with_len 0 (length changes.ids.items));
    }

-- the columns are whole, and the changes are those of a batch
pub record AreChanges (dims measures : ℕ) (changes : ChangeColumns) : Type 0 where
  pub deletes_fit : length changes.deletes.items ≡ length changes.ids.items
  pub texts_fit : length changes.texts ≡ length changes.ids.items * dims
  pub amounts_fit : length changes.amounts.items ≡ length changes.ids.items * measures
  pub is_batch : IsBatch (batch_of dims measures changes)

-- the columns after what stands for a deletion, or an insertion, was put after them
pub record Adds (deletes : Bool) (row : Row Text) (changes changes' : ChangeColumns) : Type 0 where
  pub with_id : changes'.ids.items ≡ changes.ids.items ++ row.id ∷ []
  pub with_kind : changes'.deletes.items ≡ changes.deletes.items ++ deletes ∷ []
  pub with_texts : changes'.texts ≡ changes.texts ++ row.tuple
  pub with_amounts : changes'.amounts.items ≡ changes.amounts.items ++ row.amounts
