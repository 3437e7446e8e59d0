-- A state has one spelling.
use Rattle.std.proofs.Common.{◌≡◌, ◌∙◌, ◌≤◌, ◌<◌, ◌^◌, ℕ, zero, suc, List, [], ◌∷◌, Some, length, map, get_or, nat_eq, refl, sym, ap}
use Rattle.std.proofs.Common.{ap₂, subst, arith}
use Rattle.std.specs.List.{All, AllByRecursion, IsDistinct}
use Rattle.std.proofs.lemmas.List.Elements.{All-cons, All-nil}
use Rattle.base_table.specs.Places.{Places, rows_of}
use Rattle.std.specs.Str.{bytes_eq}
use Rattle.std.proofs.lemmas.List.{length-map}
use Rattle.cell_closure.proofs.CallerLemmas.{all_recursion}
use Rattle.cube_defs.specs.Cell.{cell_of}
use Rattle.cube_defs.specs.Rows.{Row}
use Rattle.cube_defs.specs.Text.{Text}
use Rattle.cube_defs.specs.declared.limits.TheConstants.{MAX_TEXT}
use Rattle.cube_laws.specs.Recoding.{AreKnown, RowsAreKnown, coded_row, coded_tuple}
use Rattle.cube_laws.proofs.CallerLemmas.{all_map}
use Rattle.csv_load.specs.Batch.{IsLoaded, IsSmall, IsValue}
use Rattle.qc_schema.specs.Schema.{Layout}
use Rattle.qc_schema.proofs.CallerLemmas.{read-again, short-text}
use Rattle.value_dict.specs.Recoded.{text_in}
use Rattle.value_dict.specs.TextLists.{TextLists}
use Rattle.value_dict.specs.Decoded.{AreCodes, RowsAreCodes, has_text, place_in}
use Rattle.value_dict.proofs.CallerLemmas.{Fits, fits, any-within, rows-back}
use Rattle.warehouse.specs.State.{IsState, IsConsistent, State, ids_of}
use Rattle.warehouse.specs.Stored.{IsStored, state_of}
use Rattle.warehouse.proofs.CallerLemmas as decoding
use Rattle.cube_snapshot.specs.Format.{IsBytes, whole}
use Rattle.cube_snapshot.specs.Parts.{AreTexts, IsRow, rows, texts}
use Rattle.cube_snapshot.specs.Readers.{AreWithin, IsMade, Refuses, parts_made}
use Rattle.cube_snapshot.specs.Snapshot.{IsSnapshot, Parts, snapshot}
use Rattle.cube_snapshot.specs.States.{parts_in, spelling}
use Rattle.cube_snapshot.specs.declared.refused.PartRefused.TheVariants.{Form}
use Rattle.cube_snapshot.proofs.Looping.{some_is}
use Rattle.cube_snapshot.proofs.SnapshotLaws.{one_encoding, same_parts}

texts-within : (max : ℕ) (texts : List Text) → max ≤ 4000000 → All IsValue texts → length texts ≤ max → AreTexts texts
texts-within max texts few values long
    = (
      omega (arith, few, long),
      all_map IsValue (λ (t : Text). length t < 256) texts (λ t is. omega (arith, is.short))
          (all_recursion IsValue texts values),
    )

lists-within : (max : ℕ) (lists : List (List Text)) → max ≤ 4000000 → AllByRecursion (All IsValue) lists
    → AllByRecursion (λ texts. length texts ≤ max) lists → AllByRecursion AreTexts lists
lists-within max [] few values long = tt
lists-within max (texts ∷ lists) few values long
    = (texts-within max texts few values.0 long.0, lists-within max lists few values.1 long.1)

module _ (texts : List (List Text)) (max : ℕ) (most : max ≤ 4000000) (few : (i : ℕ)
    → length (get_or texts i []) ≤ max) where
  codes-small : (k : ℕ) (tuple : List Text) → AreKnown (has_text texts) k (cell_of tuple)
      → AllByRecursion (λ n. n < 2 ^ 32) (coded_tuple (place_in texts) k tuple)
  codes-small k [] known = tt
  codes-small k (v ∷ tuple) known
      = (
        omega (arith, most, few k, any-within (bytes_eq v) (get_or texts k []) known.0),
        codes-small (suc k) tuple known.1,
      )

  codes-wide : (k : ℕ) (tuple : List Text) → length (coded_tuple (place_in texts) k tuple) ≡ length tuple
  codes-wide k [] = refl
  codes-wide k (v ∷ tuple) = ap suc (codes-wide (suc k) tuple)

  row-within : (dims measures : ℕ) (row : Row Text) → IsLoaded dims measures row
      → AreKnown (has_text texts) 0 (cell_of row.tuple) → IsRow dims measures (coded_row (place_in texts) row)
  row-within dims measures row is known = record {
    id = is.id;
    codes = (codes-wide 0 row.tuple ∙ is.tuple, codes-small 0 row.tuple known);
    amounts = (is.amounts, all_recursion IsSmall row.amounts is.small);
  }

  rows-within : (dims measures : ℕ) (rows : List (Row Text)) → AllByRecursion (IsLoaded dims measures) rows
      → RowsAreKnown (has_text texts) rows
      → AllByRecursion (IsRow dims measures) (map (coded_row (place_in texts)) rows)
  rows-within dims measures [] is known = tt
  rows-within dims measures (row ∷ rows) is known
      = (row-within dims measures row is.0 known.0, rows-within dims measures rows is.1 known.1)

each-few : (lists : List (List Text)) (max : ℕ) → All (λ texts. length texts ≤ max) lists → (i : ℕ)
    → length (get_or lists i []) ≤ max
each-few lists max few i = go lists (all_recursion (λ (texts : List Text). length texts ≤ max) lists few) i
  where
    go : (ls : List (List Text)) → AllByRecursion (λ texts. length texts ≤ max) ls → (k : ℕ)
        → length (get_or ls k []) ≤ max
    go [] all k = omega arith
    go (l ∷ ls) all zero = all.0
    go (l ∷ ls) all (suc k) = go ls all.1 k

-- the parts of a state have a spelling
pub state-spelled : (s : State) → IsConsistent s → IsSnapshot (parts_in s)
state-spelled s is = record {
  spelled = record { few = short-text s.schema is.layout; again = read-again s.schema is.layout };
  texts_are = record {
    dims_are = is.lists;
    each = lists-within s.schema.values s.texts is.layout.limits.few_values
        (all_recursion (All IsValue) s.texts is.values)
        (all_recursion (λ (texts : List Text). length texts ≤ s.schema.values) s.texts is.few_texts);
  };
  rows_are = record {
    few = omega (arith, length-map s.rows (coded_row (place_in s.texts)), is.few_rows, is.layout.limits.few_rows);
    each = rows-within s.texts s.schema.values is.layout.limits.few_values
        (each-few s.texts s.schema.values is.few_texts) (length s.schema.dims) (length s.schema.measures) s.rows
        (all_recursion (IsLoaded (length s.schema.dims) (length s.schema.measures)) s.rows is.rows) is.known;
  };
}

-- states with the same parts are the same
same-state : (s t : State) → IsConsistent s → IsConsistent t → parts_in s ≡ parts_in t → s ≡ t
same-state s t is it e =
    let texts : s.texts ≡ t.texts = ap (λ (p : Parts). p.texts) e in
    let rows : s.rows ≡ t.rows = sym (rows-back s.texts s.rows is.known)
    ∙ ap₂ (λ (ls : List (List Text)) (rs : List (Row ℕ)). map (coded_row (text_in ls)) rs) texts
    (ap (λ (p : Parts). p.rows) e) ∙ rows-back t.texts t.rows it.known in
    λ j. record { schema = (e j).schema; rows = rows j; texts = texts j }

pub one-state : (s t : State) → IsState s → IsState t → spelling s ≡ spelling t → s ≡ t
one-state s t is it e =
    same-state s t is.consistent it.consistent
    (same_parts (parts_in s) (parts_in t) (state-spelled s is.consistent) (state-spelled t it.consistent) e)

pub short-values : (lists : List (List Text)) → All (All IsValue) lists → All (All (λ t. length t ≤ MAX_TEXT)) lists
short-values lists values k d lt i e l = (values k d lt i e l).short

-- the parts of a state are within all limits but that of its nodes
codes-known : (all : List (List Text)) (k : ℕ) (lists : List (List Text)) (tuple : List Text) → Fits all k lists
    → AreKnown (has_text all) k (cell_of tuple) → length tuple ≤ length lists
    → AreCodes lists (coded_tuple (place_in all) k tuple)
codes-known all k lists [] fit known long = tt
codes-known all k [] (v ∷ tuple) fit known long = absurd (omega arith)
codes-known all k (list ∷ lists) (v ∷ tuple) fit known long = (
  subst (λ (l : List Text). place_in all k v < length l) fit.0 (any-within (bytes_eq v) (get_or all k []) known.0),
  codes-known all (suc k) lists tuple fit.1 known.1 (omega arith),
)

rows-known : (texts : List (List Text)) (rows : List (Row Text)) → RowsAreKnown (has_text texts) rows
    → AllByRecursion (λ (row : Row Text). length row.tuple ≤ length texts) rows
    → RowsAreCodes texts (map (coded_row (place_in texts)) rows)
rows-known texts [] known wide = All-nil (λ (row : Row ℕ). AreCodes texts row.tuple)
rows-known texts (row ∷ rows) known wide =
    All-cons (λ (r : Row ℕ). AreCodes texts r.tuple) (coded_row (place_in texts) row)
    (map (coded_row (place_in texts)) rows)
    (codes-known texts 0 texts row.tuple (fits texts) known.0 wide.0) (rows-known texts rows known.1 wide.1)

ids-coded : (texts : List (List Text)) (rows : List (Row Text))
    → map (λ (row : Row ℕ). row.id) (map (coded_row (place_in texts)) rows) ≡ ids_of rows
ids-coded texts [] = refl
ids-coded texts (row ∷ rows) = ap (λ (l : List ℕ). row.id ∷ l) (ids-coded texts rows)

pub parts-within : (s : State) → IsConsistent s → AreWithin (parts_in s)
parts-within s is =
    let wide = all_map (IsLoaded (length s.schema.dims) (length s.schema.measures))
    (λ (row : Row Text). length row.tuple ≤ length s.texts) s.rows
    (λ row loaded. omega (arith, loaded.tuple, is.lists))
    (all_recursion (IsLoaded (length s.schema.dims) (length s.schema.measures)) s.rows is.rows) in (
      is.layout,
      (
        λ k d lt. record { values = is.values k d lt; distinct = is.distinct k d lt; few = is.few_texts k d lt },
        record {
          known = rows-known s.texts s.rows is.known wide;
          ids = subst (IsDistinct nat_eq) (sym (ids-coded s.texts s.rows)) is.ids;
          few = omega (arith, length-map s.rows (coded_row (place_in s.texts)), is.few_rows);
        },
      ),
    )

-- what was read is stored so in a warehouse
pub stored-made : (schema : Layout) (dict : TextLists) (table : Places) → IsMade schema dict table
    → AreWithin (parts_made schema dict table) → IsStored schema dict table
stored-made schema dict table made within = record {
  layout = within.0;
  lists = made.are.lists;
  most_texts = made.are.values;
  dims = made.are.dims;
  measures = made.are.measures;
  most_rows = made.are.rows;
  closed = made.closed;
  values = λ k d lt. (within.1.0 k d lt).values;
  known = within.1.1.known;
  dictionary = made.dictionary;
  are_rows = made.table_is;
}

pub parts-stored : (schema : Layout) (dict : TextLists) (table : Places) → IsStored schema dict table
    → parts_made schema dict table ≡ parts_in (state_of schema dict table)
parts-stored schema dict table is =
    let rows = sym (decoding.rows-back dict.lists (rows_of table) is.known is.dictionary.distinct) in
    λ j. let p : Parts = record { schema = schema; texts = dict.lists; rows = rows j } in p

module _ (bytes : List ℕ) (bounded : IsBytes bytes) where
  spelled-parts : (s : State) → IsConsistent s → bytes ≡ spelling s → whole snapshot bytes ≡ Some (parts_in s)
  spelled-parts s is e = (one_encoding bytes (parts_in s) bounded).1 (e, state-spelled s is)

  -- they are the spelling of one state
  pub unique : (s t : State) → IsConsistent s → IsConsistent t → bytes ≡ spelling s → bytes ≡ spelling t → s ≡ t
  unique s t is it e f = same-state s t is it
      (some_is (parts_in s) (parts_in t) (sym (spelled-parts s is e) ∙ spelled-parts t it f))

  pub refused-state : Refuses AreWithin Form (whole snapshot bytes) → (s : State) → IsConsistent s
      → bytes ≡ spelling s → ⊥
  refused-state refused s is e = refused (parts_in s) (spelled-parts s is e) (parts-within s is)

  pub made-spelled : (schema : Layout) (dict : TextLists) (table : Places) → IsStored schema dict table
      → whole snapshot bytes ≡ Some (parts_made schema dict table) → bytes ≡ spelling (state_of schema dict table)
  made-spelled schema dict table is read = ((one_encoding bytes (parts_made schema dict table) bounded).0 read).0
      ∙ ap (λ (p : Parts). snapshot.put p) (parts-stored schema dict table is)
