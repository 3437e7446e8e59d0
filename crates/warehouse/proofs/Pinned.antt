-- The tree of some rows stays theirs where files are taken: texts are only added.
use Rattle.std.proofs.Common.{◌≡◌, ◌≤◌, ◌+◌, ◌∙◌, ℕ, zero, suc, List, [], ◌∷◌, ◌++◌, Bool, true, false, Option, Some, None, Result, Ok, Err}
use Rattle.std.proofs.Common.{cond, length, get_or, drop, map, refl, sym, ap, ap₂, arith, subst, true≢false}
use Rattle.std.specs.Prelude.{◌||◌, ◌==◌}
use Rattle.std.specs.List.{All, list_any, position_or_len}
use Rattle.std.specs.Str.{bytes_eq}
use Rattle.std.proofs.lemmas.List.{take-append-drop}
use Rattle.cube_defs.specs.Cell.{Cell, cell_of}
use Rattle.cube_defs.specs.Rows.{Row}
use Rattle.cube_defs.specs.Text.{Text, text_cmp}
use Rattle.cube_defs.specs.Tree.{Tree, nodes}
use Rattle.cube_laws.specs.Recoding.{AreKnown, RowsAreKnown, coded_row, coded_tuple}
use Rattle.csv_load.specs.Batch.{Change, IsLoaded, inserted}
use Rattle.csv_load.specs.Faults.{Fault}
use Rattle.csv_load.specs.Files.{base_in, batch_in}
use Rattle.qc_schema.specs.Schema.{Layout}
use Rattle.tree_search.specs.Found.{IsTreeOf}
use Rattle.value_dict.specs.Decoded.{has_text, place_in}
use Rattle.warehouse.specs.Batch.{Applied, Apply, FileUse, Load, NotEmpty, Refusal, after, refusal_of, result, result_of, unless}
use Rattle.warehouse.specs.State.{HasTree, IsState, State, with_rows}
use Rattle.warehouse.specs.Steps.{AreLonger}
use Rattle.warehouse.proofs.Texts.{longer-head, longer-rows, longer-tail}

-- what is found in a list is found at the same place where others stand after it
any-after : (p : Text → Bool) (xs ys : List Text) → list_any p xs ≡ true → list_any p (xs ++ ys) ≡ true
any-after p [] ys h = absurd (true≢false (sym h))
any-after p (x ∷ xs) ys h = go (p x) h (any-after p xs ys)
  where
    go : (b : Bool) → (b || list_any p xs) ≡ true → (list_any p xs ≡ true → list_any p (xs ++ ys) ≡ true)
        → (b || list_any p (xs ++ ys)) ≡ true
    go true h rest = refl
    go false h rest = rest h

place-after : (p : Text → Bool) (xs ys : List Text) → list_any p xs ≡ true
    → position_or_len p (xs ++ ys) ≡ position_or_len p xs
place-after p [] ys h = absurd (true≢false (sym h))
place-after p (x ∷ xs) ys h = go (p x) refl h (place-after p xs ys)
  where
    go : (b : Bool) → p x ≡ b → (b || list_any p xs) ≡ true
        → (list_any p xs ≡ true → position_or_len p (xs ++ ys) ≡ position_or_len p xs)
        → position_or_len p (x ∷ xs ++ ys) ≡ position_or_len p (x ∷ xs)
    go true is h rest = rw is refl
    go false is h rest = rw is (ap (λ (n : ℕ). 1 + n) (rest h))

-- the texts of a dimension, with others after them
prefix-at : (before now : List (List Text)) (k : ℕ) → AreLonger before now
    → get_or now k [] ≡ get_or before k [] ++ drop (length (get_or before k [])) (get_or now k [])
prefix-at [] now k longer = refl
prefix-at (b ∷ before) [] k longer = absurd (omega (arith, longer.dims))
prefix-at (b ∷ before) (n ∷ now) zero longer = sym (take-append-drop (length b) n)
    ∙ ap (λ (front : List Text). front ++ drop (length b) n) (longer-head b n before now longer)
prefix-at (b ∷ before) (n ∷ now) (suc k) longer = prefix-at before now k (longer-tail b n before now longer)

module _ (before now : List (List Text)) (longer : AreLonger before now) where
  has-longer : (k : ℕ) (text : Text) → has_text before k text ≡ true → has_text now k text ≡ true
  has-longer k text has =
      ap (list_any (bytes_eq text)) (prefix-at before now k longer)
      ∙ any-after (bytes_eq text) (get_or before k []) (drop (length (get_or before k [])) (get_or now k [])) has

  place-longer : (k : ℕ) (text : Text) → has_text before k text ≡ true → place_in now k text ≡ place_in before k text
  place-longer k text has =
      ap (position_or_len (bytes_eq text)) (prefix-at before now k longer)
      ∙ place-after (bytes_eq text) (get_or before k []) (drop (length (get_or before k [])) (get_or now k [])) has

  cell-longer : (k : ℕ) (cell : Cell Text) → AreKnown (has_text before) k cell → AreKnown (has_text now) k cell
  cell-longer k [] known = tt
  cell-longer k (None ∷ cell) known = cell-longer (suc k) cell known
  cell-longer k (Some text ∷ cell) known = (has-longer k text known.0, cell-longer (suc k) cell known.1)

  tuple-longer : (k : ℕ) (tuple : List Text) → AreKnown (has_text before) k (cell_of tuple)
      → coded_tuple (place_in now) k tuple ≡ coded_tuple (place_in before) k tuple
  tuple-longer k [] known = refl
  tuple-longer k (text ∷ tuple) known
      = ap₂ (λ (code : ℕ) (codes : List ℕ). code ∷ codes) (place-longer k text known.0)
      (tuple-longer (suc k) tuple known.1)

  rows-known-longer : (rows : List (Row Text)) → RowsAreKnown (has_text before) rows → RowsAreKnown (has_text now) rows
  rows-known-longer [] known = tt
  rows-known-longer (row ∷ rows) known = (cell-longer 0 (cell_of row.tuple) known.0, rows-known-longer rows known.1)

  -- rows whose texts were known have the codes that they had
  codes-stay : (rows : List (Row Text)) → RowsAreKnown (has_text before) rows
      → map (coded_row (place_in now)) rows ≡ map (coded_row (place_in before)) rows
  codes-stay [] known = refl
  codes-stay (row ∷ rows) known =
      ap₂ (λ (r : Row ℕ) (rs : List (Row ℕ)). r ∷ rs)
      (ap (λ (tuple : List ℕ). let r : Row ℕ = record { id = row.id; tuple = tuple; amounts = row.amounts } in
      r) (tuple-longer 0 row.tuple known.0))
      (codes-stay rows known.1)

-- a tree stays that of the rows where the texts of a state get others after them
pub tree-stays : (s s2 : State) (rows : List (Row Text)) (tree : Tree ℕ) → HasTree (with_rows s rows) tree
    → s2.schema ≡ s.schema → AreLonger s.texts s2.texts → IsState s2 → HasTree (with_rows s2 rows) tree
tree-stays s s2 rows tree has schema longer is =
    let old = has.state.consistent in
    record {
      state = record {
        consistent = record {
          layout = is.consistent.layout;
          rows = subst (λ (l : Layout). All (IsLoaded (length l.dims) (length l.measures)) rows) (sym schema) old.rows;
          ids = old.ids;
          few_rows = subst (λ (l : Layout). length rows ≤ l.rows) (sym schema) old.few_rows;
          lists = is.consistent.lists;
          values = is.consistent.values;
          distinct = is.consistent.distinct;
          few_texts = is.consistent.few_texts;
          known = rows-known-longer s.texts s2.texts longer rows old.known;
        };
        few_nodes = subst (λ (l : Layout). length (nodes text_cmp rows) ≤ l.nodes) (sym schema) has.state.few_nodes;
      };
      canonical =
          subst (λ (l : Layout). IsTreeOf (length l.dims) tree
          (record { measures = length l.measures; rows = map (coded_row (place_in s2.texts)) rows })) (sym schema)
          (subst (λ (rs : List (Row ℕ)). IsTreeOf (length s.schema.dims) tree
          (record { measures = length s.schema.measures; rows = rs }))
          (sym (codes-stay s.texts s2.texts longer rows old.known)) has.canonical);
    }

-- changes that are taken
after-of : (s : State) (read : Result (List (Change Text)) Fault) (a : Applied) → result_of s read ≡ Ok a
    → (changes : List (Change Text)) × (a.state ≡ after s changes)
after-of s (Err fault) a is = cc
after-of s (Ok changes) a is = (changes, go (refusal_of s changes) _ refl is)
  where
    go : (refusal : Option Refusal) (applied : Applied) → applied.state ≡ after s changes
        → unless refusal applied ≡ Ok a → a.state ≡ after s changes
    go None applied state is = let same : a ≡ applied = cc in ap (λ (x : Applied). x.state) same ∙ state
    go (Some refusal) applied state is = cc

-- and those of a file
pub taken-of : (s : State) (kind : FileUse) (bytes : List ℕ) (a : Applied) → result s kind bytes ≡ Ok a
    → (changes : List (Change Text)) × (a.state ≡ after s changes)
taken-of s Apply bytes a is = after-of s (batch_in s.schema bytes) a is
taken-of s Load bytes a is = go (length s.rows == 0) is
  where
    go : (b : Bool) → cond b (result_of s (base_in s.schema bytes)) (Err NotEmpty) ≡ Ok a
        → (changes : List (Change Text)) × (a.state ≡ after s changes)
    go true is = after-of s (base_in s.schema bytes) a is
    go false is = cc

-- a tree stays that of the rows where a file is taken
pub tree-after : (s s2 : State) (rows : List (Row Text)) (tree : Tree ℕ) (kind : FileUse) (bytes : List ℕ) (a : Applied)
    → HasTree (with_rows s rows) tree → result s kind bytes ≡ Ok a → s2 ≡ a.state → IsState s2
    → HasTree (with_rows s2 rows) tree
tree-after s s2 rows tree kind bytes a has taken is valid =
    let made = taken-of s kind bytes a taken in
    let same : s2 ≡ after s made.0 = is ∙ made.1 in
    tree-stays s s2 rows tree has (ap (λ (t : State). t.schema) same)
    (subst (λ (lists : List (List Text)). AreLonger s.texts lists) (sym (ap (λ (t : State). t.texts) same))
    (longer-rows s.texts (inserted made.0))) valid
