-- What is true of each state.
use Rattle.std.proofs.Common.{◌<◌, ◌≤◌, ◌∙◌, ◌≡◌, ℕ, List, [], ◌∷◌, ap, length, map, nat_eq, sym, subst, arith, refl, replicate, None, lit<}
use Rattle.std.specs.List.{All, IsDistinct}
use Rattle.std.specs.Ordering.{nat_cmp}
use Rattle.std.proofs.lemmas.List.Elements.{All-cons, All-head, All-nil, All-replicate, All-tail}
use Rattle.std.proofs.lemmas.List.{length-replicate}
use Rattle.cube_defs.specs.Rows.{Row}
use Rattle.cube_defs.specs.Text.{Text}
use Rattle.cube_defs.specs.Tree.{nodes}
use Rattle.base_table.specs.Places.{IsRow, IsTable, Places, rows_of}
use Rattle.csv_load.specs.Batch.{IsLoaded, IsValue}
use Rattle.qc_schema.specs.Schema.{IsLayout, Layout}
use Rattle.qc_schema.proofs.CallerLemmas.{dims-few, measures-few}
use Rattle.value_dict.specs.TextLists.{IsDictionary, TextLists, no_texts}
use Rattle.warehouse.specs.State.{IsState, IsConsistent}
use Rattle.warehouse.specs.Steps.{closed, frame}
use Rattle.warehouse.specs.Stored.{IsStored, state_of}
use Rattle.value_dict.specs.Decoded.{AreCodes, RowsAreCodes, decoded_row}
use Rattle.warehouse.proofs.Counted.{nodes-decoded}
use Rattle.warehouse.proofs.Decoding.{ids-decoded, length-decoded, length-rows, rows-known, values-decoded}

loaded-row : (lists : List (List Text)) (dims measures : ℕ) (row : Row ℕ) → AreCodes lists row.tuple
    → All (All IsValue) lists → IsRow dims measures row → IsLoaded dims measures (decoded_row lists row)
loaded-row lists dims measures row are values is = record {
  id = is.id;
  tuple = length-decoded lists row.tuple are ∙ is.tuple;
  texts = values-decoded lists row.tuple are values;
  amounts = is.amounts;
  small = is.small;
}

pub loaded-rows : (lists : List (List Text)) (dims measures : ℕ) (rows : List (Row ℕ)) → RowsAreCodes lists rows
    → All (All IsValue) lists → All (IsRow dims measures) rows
    → All (IsLoaded dims measures) (map (decoded_row lists) rows)
loaded-rows lists dims measures [] are values all = All-nil (IsLoaded dims measures)
loaded-rows lists dims measures (row ∷ rows) are values all =
    All-cons (IsLoaded dims measures) (decoded_row lists row) (map (decoded_row lists) rows)
    (loaded-row lists dims measures row (All-head (λ (r : Row ℕ). AreCodes lists r.tuple) row rows are) values
    (All-head (IsRow dims measures) row rows all))
    (loaded-rows lists dims measures rows (All-tail (λ (r : Row ℕ). AreCodes lists r.tuple) row rows are) values
    (All-tail (IsRow dims measures) row rows all))

pub is-consistent : (schema : Layout) (dict : TextLists) (table : Places) → IsStored schema dict table
    → IsConsistent (state_of schema dict table)
is-consistent schema dict table is = record {
  layout = is.layout;
  rows =
      let all : All (IsRow (length schema.dims) (length schema.measures)) (rows_of table)
      = rw (is.dims, is.measures) at is.are_rows.rows.each in
      loaded-rows dict.lists (length schema.dims) (length schema.measures) (rows_of table) is.known is.values all;
  ids = subst (λ (ids : List ℕ). IsDistinct nat_eq ids) (sym (ids-decoded dict.lists (rows_of table)))
      is.are_rows.rows.distinct;
  few_rows = omega (arith, length-rows dict.lists (rows_of table), is.are_rows.rows.few, is.most_rows);
  lists = is.lists;
  values = is.values;
  distinct = is.dictionary.distinct;
  few_texts = subst (λ (n : ℕ). All (λ (texts : List Text). length texts ≤ n) dict.lists) is.most_texts
      is.dictionary.within;
  known = rows-known dict.lists (rows_of table) is.known;
}

pub is-state : (schema : Layout) (dict : TextLists) (table : Places) → IsStored schema dict table
    → length (nodes nat_cmp (rows_of table)) ≤ schema.nodes → IsState (state_of schema dict table)
is-state schema dict table is few = record {
  consistent = is-consistent schema dict table is;
  few_nodes = subst (λ (n : ℕ). n ≤ schema.nodes)
      (nodes-decoded dict.lists (rows_of table) is.known is.dictionary.distinct) few;
}

-- a table without rows
abbrev pub no_rows : ℕ → ℕ → ℕ → Places
no_rows dims measures max = record { dims = dims; measures = measures; max = max; places = []; was = None }

table-empty : (dims measures max : ℕ) → 0 < dims → dims ≤ 16 → measures ≤ 4 → 0 < max → max ≤ 1000000
    → IsTable (no_rows dims measures max)
unfolding IsDistinct
table-empty dims measures max some_dims few_dims few_measures some_rows few_rows = record {
  some_dims = some_dims;
  few_dims = few_dims;
  few_measures = few_measures;
  some_rows = some_rows;
  few_rows = few_rows;
  few_places = lit< tt;
  rows = record { few = omega arith; each = All-nil (IsRow dims measures); distinct = tt };
  were = tt;
}

pub stored-empty : (schema : Layout) → IsLayout schema → IsDictionary (no_texts (length schema.dims) schema.values)
    → IsStored schema (no_texts (length schema.dims) schema.values)
    (no_rows (length schema.dims) (length schema.measures) schema.rows)
stored-empty schema layout dictionary = record {
  layout = layout;
  lists = length-replicate {A = List Text} (length schema.dims) [];
  most_texts = refl;
  dims = refl;
  measures = refl;
  most_rows = refl;
  closed = refl;
  values = All-replicate (All IsValue) (length schema.dims) [] (All-nil IsValue);
  known = All-nil (λ (row : Row ℕ). AreCodes (replicate (length schema.dims) []) row.tuple);
  dictionary = dictionary;
  are_rows = table-empty (length schema.dims) (length schema.measures) schema.rows (omega (arith, layout.some_dims))
      (omega (arith, dims-few schema layout)) (omega (arith, measures-few schema layout))
      (omega (arith, layout.limits.some_rows)) layout.limits.few_rows;
}

-- a dictionary and a table in the place of those before
pub stored-next : (schema : Layout) (dict dict' : TextLists) (table table' : Places) → IsStored schema dict table
    → frame table' ≡ frame (closed table) → IsTable table' → dict'.max ≡ dict.max
    → length dict'.lists ≡ length dict.lists
    → All (All IsValue) dict'.lists → RowsAreCodes dict'.lists (rows_of table') → IsDictionary dict'
    → IsStored schema dict' table'
stored-next schema dict dict' table table' is rest valid max long values known dictionary = record {
  layout = is.layout;
  lists = long ∙ is.lists;
  most_texts = max ∙ is.most_texts;
  dims = ap (λ (t : Places). t.dims) rest ∙ is.dims;
  measures = ap (λ (t : Places). t.measures) rest ∙ is.measures;
  most_rows = ap (λ (t : Places). t.max) rest ∙ is.most_rows;
  closed = ap (λ (t : Places). t.was) rest;
  values = values;
  known = known;
  dictionary = dictionary;
  are_rows = valid;
}
