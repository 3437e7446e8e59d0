-- The files of a generated run: rows that are drawn one after another from a number.
use Rattle.std.specs.Prelude.{ℕ, zero, suc, ◌+◌, ◌*◌, ◌/◌, ◌%◌, ◌^◌, min, List, [], ◌∷◌, ◌++◌, ℤ, pos, ◌-ℤ◌, codes, decimal}
use Rattle.aggregates.specs.Texts.{amount_text}

-- a linear congruential generator: the state after one draw more
unfoldable pub after_draw : ℕ → ℕ
after_draw s = (s * 6364136223846793005 + 1442695040888963407) % 2 ^ 64

-- after so many
abbrev pub after_draws : ℕ → ℕ → ℕ
after_draws zero s = s
after_draws (suc k) s = after_draws k (after_draw s)

-- the number less than `most` that a draw gives, from the high bits of the state after it
unfoldable pub number_drawn : ℕ → ℕ → ℕ
number_drawn most s = s / 2 ^ 33 % most

-- a value of a dimension: the dimension's name, and the number that the next draw gives
abbrev pub drawn_value : ℕ → ℕ → ℕ → List ℕ
drawn_value name most s = name ∷ decimal (number_drawn most (after_draw s))

-- the value's field with its comma
abbrev pub value_text : ℕ → ℕ → ℕ → List ℕ
value_text name most s = 44 ∷ drawn_value name most s

-- the fields of a row's five dimensions, a to e
abbrev pub values_text : ℕ → List ℕ
values_text s =
    value_text 97 40 s
    ++ value_text 98 20 (after_draws 1 s)
    ++ value_text 99 10 (after_draws 2 s)
    ++ value_text 100 5 (after_draws 3 s)
    ++ value_text 101 4 (after_draws 4 s)

-- the amount of the row with an id, in hundredths: no draw is made for it
unfoldable pub amount_of : ℕ → ℤ
amount_of id = pos (id % 1001) -ℤ pos 500

-- the record of a row, from the state before its draws
unfoldable pub row_text : ℕ → ℕ → List ℕ
row_text id s = decimal id ++ values_text s ++ 44 ∷ amount_text 2 (amount_of id) ++ 10 ∷ []

-- the records of so many rows, of which the first has this id, each after the same prefix
abbrev pub rows_text : List ℕ → ℕ → ℕ → ℕ → List ℕ
rows_text front zero id s = []
rows_text front (suc k) id s = front ++ row_text id s ++ rows_text front k (id + 1) (after_draws 5 s)

-- the state after the draws of so many rows
abbrev pub after_rows : ℕ → ℕ → ℕ
after_rows zero s = s
after_rows (suc k) s = after_rows k (after_draws 5 s)

-- the record that deletes the row with an id
abbrev pub deletion_text : ℕ → List ℕ
deletion_text id = codes "-," ++ decimal id ++ codes ",,,,,,\n"

-- the records that delete so many rows, of which the first has this id
abbrev pub deletions_text : ℕ → ℕ → List ℕ
deletions_text zero id = []
deletions_text (suc k) id = deletion_text id ++ deletions_text k (id + 1)

-- the base file of so many rows, from the state before their draws
unfoldable pub base_text : ℕ → ℕ → List ℕ
base_text rows s = codes "id,a,b,c,d,e,amount\n" ++ rows_text [] rows 1 s

-- how many rows go and how many come in each batch
unfoldable pub batch_rows : ℕ → ℕ
batch_rows rows = min rows 50

-- the id of the oldest row after so many batches
abbrev pub oldest_id : ℕ → ℕ → ℕ
oldest_id rows before = before * batch_rows rows + 1

-- The batch that so many others stand before: the oldest rows go, and as many come after the newest.
unfoldable pub batch_text : ℕ → ℕ → ℕ → List ℕ
batch_text rows before s =
    codes "op,id,a,b,c,d,e,amount\n"
    ++ deletions_text (batch_rows rows) (oldest_id rows before)
    ++ rows_text (codes "+,") (batch_rows rows) (rows + oldest_id rows before) s
