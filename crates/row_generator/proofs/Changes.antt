-- The loader reads the generated files without a fault.
use Rattle.std.proofs.Common.{◌≡◌, ◌∙◌, ℕ, zero, suc, ◌+◌, ◌*◌, ◌^◌, ◌<◌, ◌≤◌, List, [], ◌∷◌, ◌++◌, refl, ap, ap₂, arith}
use Rattle.std.proofs.Common.{append_assoc, decimal, true, false, ℤ, nat_abs, Some}
use Rattle.std.specs.Prelude.{Ok, codes}
use Rattle.std.specs.Str.{is_utf8, chars}
use Rattle.std.proofs.lemmas.Nat.{mul-le}
use Rattle.csv.specs.Reading.{default_config, records}
use Rattle.aggregates.specs.Numbers.{amount_in, id_in}
use Rattle.aggregates.specs.Texts.{amount_text}
use Rattle.cube_defs.specs.Text.{Text}
use Rattle.cube_defs.specs.declared.limits.TheConstants.{MAX_AMOUNT, MAX_ROWS}
use Rattle.csv_load.specs.Batch.{Change, Delete, Insert}
use Rattle.csv_load.specs.Faults.{cons_ok}
use Rattle.csv_load.specs.Files.{base_in, batch_in, change_in, changes_from, changes_of}
use Rattle.text_lines.proofs.CallerLemmas.{line-record, no-records}
use Rattle.row_generator.specs.Drawn.{base_changes, batch_changes, deletions, drawn_row, drawn_rows, insertions, layout}
use Rattle.row_generator.specs.Generator.{after_draws, amount_of, base_text, batch_rows, batch_text, deletion_text, deletions_text}
use Rattle.row_generator.specs.Generator.{oldest_id, rows_text}
use Rattle.row_generator.specs.declared.files.TheConstants.{BATCHES}
use Rattle.row_generator.proofs.Fields.{IsField, amount-small}
use Rattle.row_generator.proofs.Records.{base-record, batch-record, deletion-record, drawn-fields, empty_fields, row_fields}

-- the places of the needed columns
abbrev base_places : List ℕ
base_places = 0 ∷ 1 ∷ 2 ∷ 3 ∷ 4 ∷ 5 ∷ 6 ∷ []

abbrev batch_places : List ℕ
batch_places = 1 ∷ 2 ∷ 3 ∷ 4 ∷ 5 ∷ 6 ∷ 7 ∷ 0 ∷ []

-- ---- one record

module _ (k id : ℕ) (f a b c d e m : Text) (z : ℤ) (number : id_in f ≡ Some id) (amount : amount_in 2 m ≡ Some z)
    (ok-a : IsField a) (ok-b : IsField b) (ok-c : IsField c) (ok-d : IsField d) (ok-e : IsField e) where
  base-read : change_in false layout 7 base_places k (f ∷ a ∷ b ∷ c ∷ d ∷ e ∷ m ∷ [])
      ≡ Ok (Insert (record { id = id; tuple = a ∷ b ∷ c ∷ d ∷ e ∷ []; amounts = z ∷ [] }))
  base-read = rw (ok-a.utf8, ok-b.utf8, ok-c.utf8, ok-d.utf8, ok-e.utf8, number, amount)
      (rw (ok-a.short, ok-b.short, ok-c.short, ok-d.short, ok-e.short) refl)

  batch-read : change_in true layout 8 batch_places k (codes "+" ∷ f ∷ a ∷ b ∷ c ∷ d ∷ e ∷ m ∷ [])
      ≡ Ok (Insert (record { id = id; tuple = a ∷ b ∷ c ∷ d ∷ e ∷ []; amounts = z ∷ [] }))
  batch-read = rw (ok-a.utf8, ok-b.utf8, ok-c.utf8, ok-d.utf8, ok-e.utf8, number, amount)
      (rw (ok-a.short, ok-b.short, ok-c.short, ok-d.short, ok-e.short) refl)

deletion-read : (k id : ℕ) (f : Text) → id_in f ≡ Some id
    → change_in true layout 8 batch_places k (codes "-" ∷ f ∷ empty_fields) ≡ Ok (Delete id)
unfolding is_utf8 chars
deletion-read k id f number = rw number refl

-- where printed ids and amounts are read as themselves
module _ (read-id : (id : ℕ) → id < 2 ^ 64 → id_in (decimal id) ≡ Some id)
    (read-amount : (scale : ℕ) (amount : ℤ) → nat_abs amount ≤ MAX_AMOUNT
    → amount_in scale (amount_text scale amount) ≡ Some amount) where
  base-row : (k id s : ℕ) → id < 2 ^ 64
      → change_in false layout 7 base_places k (decimal id ∷ row_fields id s) ≡ Ok (Insert (drawn_row id s))
  unfolding drawn_row
  base-row k id s h =
      let f = drawn-fields s in
      base-read k id (decimal id) _ _ _ _ _ (amount_text 2 (amount_of id)) (amount_of id) (read-id id h)
      (read-amount 2 (amount_of id) (amount-small id)) f.a f.b f.c f.d f.e

  batch-row : (k id s : ℕ) → id < 2 ^ 64
      → change_in true layout 8 batch_places k (codes "+" ∷ decimal id ∷ row_fields id s) ≡ Ok (Insert (drawn_row id s))
  unfolding drawn_row
  batch-row k id s h =
      let f = drawn-fields s in
      batch-read k id (decimal id) _ _ _ _ _ (amount_text 2 (amount_of id)) (amount_of id) (read-id id h)
      (read-amount 2 (amount_of id) (amount-small id)) f.a f.b f.c f.d f.e

  -- ---- many records

  base-rows : (n k id s : ℕ) → id + n < 2 ^ 64
      → changes_from false layout 7 base_places k (records default_config (rows_text [] n id s))
      ≡ Ok (insertions (drawn_rows n id s))
  base-rows zero k id s h = ap (changes_from false layout 7 base_places k) no-records
  base-rows (suc n) k id s h =
      ap (changes_from false layout 7 base_places k)
      (base-record id s (rows_text [] n (id + 1) (after_draws 5 s)) (omega (arith, h)))
      ∙ ap₂ cons_ok (base-row k id s (omega (arith, h)))
      (base-rows n (k + 1) (id + 1) (after_draws 5 s) (omega (arith, h)))

  batch-rows : (n k id s : ℕ) → id + n < 2 ^ 64
      → changes_from true layout 8 batch_places k (records default_config (rows_text (codes "+,") n id s))
      ≡ Ok (insertions (drawn_rows n id s))
  batch-rows zero k id s h = ap (changes_from true layout 8 batch_places k) no-records
  batch-rows (suc n) k id s h =
      ap (changes_from true layout 8 batch_places k)
      (batch-record id s (rows_text (codes "+,") n (id + 1) (after_draws 5 s)) (omega (arith, h)))
      ∙ ap₂ cons_ok (batch-row k id s (omega (arith, h)))
      (batch-rows n (k + 1) (id + 1) (after_draws 5 s) (omega (arith, h)))

  -- deletions, and the changes of the bytes after them
  batch-deletions : (n k id : ℕ) (rest : List ℕ) (more : List (Change Text)) → id + n < 2 ^ 64
      → ((j : ℕ) → changes_from true layout 8 batch_places j (records default_config rest) ≡ Ok more)
      → changes_from true layout 8 batch_places k (records default_config (deletions_text n id ++ rest))
      ≡ Ok (deletions n id ++ more)
  batch-deletions zero k id rest more h after = after k
  batch-deletions (suc n) k id rest more h after =
      ap (λ (text : List ℕ). changes_from true layout 8 batch_places k (records default_config text))
      (append_assoc (deletion_text id) (deletions_text n (id + 1)) rest)
      ∙ ap (changes_from true layout 8 batch_places k)
      (deletion-record id (deletions_text n (id + 1) ++ rest) (omega (arith, h)))
      ∙ ap₂ cons_ok (deletion-read k id (decimal id) (read-id id (omega (arith, h))))
      (batch-deletions n (k + 1) (id + 1) rest more (omega (arith, h)) after)

  -- ---- the files

  pub base-is-read : (rows s : ℕ) → rows ≤ MAX_ROWS → base_in layout (base_text rows s) ≡ Ok (base_changes rows s)
  unfolding base_text
  base-is-read rows s h =
      let few : MAX_ROWS ≡ 1000000 = refl in
      ap (λ (all : List (List (List ℕ))). changes_of false layout all)
      (line-record 105 (100 ∷ []) (rows_text [] rows 1 s)
      (codes "a" ∷ codes "b" ∷ codes "c" ∷ codes "d" ∷ codes "e" ∷ codes "amount" ∷ []) refl refl)
      ∙ base-rows rows 1 1 s (omega (arith, h, few))

  pub batch-is-read : (rows before s : ℕ) → rows ≤ MAX_ROWS → before < BATCHES
      → batch_in layout (batch_text rows before s) ≡ Ok (batch_changes rows before s)
  unfolding batch_text batch_rows
  batch-is-read rows before s h l =
      let few : MAX_ROWS ≡ 1000000 = refl in
      let n = batch_rows rows in
      let first = oldest_id rows before in
      let rest = rows_text (codes "+,") n (rows + first) s in
      let most : before * n ≤ 40 * 50 = mul-le before n 40 50 (omega (arith, l)) (omega arith) in
      ap (λ (all : List (List (List ℕ))). changes_of true layout all)
      (line-record 111 (112 ∷ []) (deletions_text n first ++ rest)
      (codes "id" ∷ codes "a" ∷ codes "b" ∷ codes "c" ∷ codes "d" ∷ codes "e" ∷ codes "amount" ∷ []) refl refl)
      ∙ batch-deletions n 1 first rest (insertions (drawn_rows n (rows + first) s)) (omega (arith, h, few, most))
      (λ j. batch-rows n j (rows + first) s (omega (arith, h, few, most)))
