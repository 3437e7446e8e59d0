-- Rows that come stand after those that were there, and the tree takes them one after another.
use Rattle.std.proofs.Common.{◌≡◌, ◌∙◌, ◌≤◌, ◌<◌, ◌+◌, ◌*◌, ◌^◌, ℕ, ℤ, List, [], ◌∷◌, ◌++◌, Option, Some, None, true, false, append-nil}
use Rattle.std.proofs.Common.{append_assoc, arith, drop, get_or, is_some, length, map, nat_eq, refl, sym, ap, ap₂, filter, subst, Bool}
use Rattle.std.proofs.Common.{take, true≢false}
use Rattle.std.specs.Prelude.{Err, IfSome, Ok, OnOk, Result, not}
use Rattle.std.specs.Str.{bytes_eq}
use Rattle.std.specs.Ordering.{nat_cmp}
use Rattle.std.specs.List.{All, AllByRecursion, IsDistinct}
use Rattle.std.specs.Cmp.{nat_cmp_total}
use Rattle.std.specs.FinMap as finmap
use Rattle.std.specs.FinMap.{nat_cmp-IsAntisymmetric}
use Rattle.std.proofs.lemmas.List.{append_cancel_left, drop_all, drop-append-le, length-append, length-take, map-append, take_all}
use Rattle.std.proofs.lemmas.List.{take_more, take-append-drop, take-take}
use Rattle.std.proofs.lemmas.List.Elements.{All-cons, All-filter, All-head, All-nil, All-tail, filter_map-append}
use Rattle.base_table.specs.Places.{IsTable, Places, row_at, rows_in, rows_of}
use Rattle.batch_insert.specs.Planned.{IsSource}
use Rattle.batch_insert.specs.RowComes.{ForRow}
use Rattle.csv_load.specs.Batch.{Change, deleted, inserted}
use Rattle.csv_load.specs.Faults.{Fault}
use Rattle.csv_load.specs.Files.{batch_in}
use Rattle.qc_schema.specs.Schema.{Layout}
use Rattle.cube_defs.specs.Cell.{Cell, cell_of, leq}
use Rattle.cube_defs.specs.Rows.{Row}
use Rattle.cube_defs.specs.Text.{Text}
use Rattle.cube_defs.specs.Tree.{IsCanonical, Node, Tree, affected_size, nodes}
use Rattle.qc_arena.specs.Map.{Arena}
use Rattle.tree_laws.proofs.CallerLemmas.{nodes_no_fewer}
use Rattle.tree_search.specs.Found.{IsTreeOf}
use Rattle.cube_laws.specs.Recoding.{coded_row}
use Rattle.value_dict.specs.Decoded.{AreCodes, RowsAreCodes, decoded_row, place_in}
use Rattle.warehouse.specs.Batch.{is_among, rows_after}
use Rattle.warehouse.specs.InPlace.{KeepsOtherRecords, KeepsNodes, KeepsNumbers, OfBatch, cost_of_insertions, cost_of_batch}
use Rattle.warehouse.specs.InPlace.{cost_of_deletions, gone, kept, with_codes}
use Rattle.warehouse.specs.Steps.{AreLonger, HasPrefix, IsTreeBefore, rows_at, rows_before, rows_from_place, rows_between}
use Rattle.warehouse.proofs.Decoding.{filter-decoded, rows-back}
use Rattle.warehouse.proofs.Growing.{known-longer, rows-longer}
use Rattle.warehouse.proofs.Trees.{rows-wide}
use Rattle.cube_laws.proofs.CallerLemmas.{all_prefix}

-- places that stand first
pub prefix-same : (t : Places) → HasPrefix t t
prefix-same t = take_all (length t.places) t.places (omega arith)

pub prefix-within : (t t' : Places) → HasPrefix t t' → length t.places ≤ length t'.places
prefix-within t t' front
    = omega (arith, ap (λ (ps : List (Option (Row ℕ))). length ps) front, length-take (length t.places) t'.places)

pub front-front : (s t u : Places) → HasPrefix s t → HasPrefix t u → HasPrefix s u
front-front s t u first second =
    sym (take-take (length s.places) (length t.places) u.places (prefix-within s t first))
    ∙ ap (λ (ps : List (Option (Row ℕ))). take (length s.places) ps) second ∙ first

-- the rows before a place, and one more
row-more : (t : Places) (k : ℕ) (row : Row ℕ) → k < length t.places → row_at t k ≡ Some row
    → rows_before t (k + 1) ≡ rows_before t k ++ row ∷ []
row-more t k row lt is =
    ap rows_in (take_more t.places k None lt)
    ∙ filter_map-append (λ (place : Option (Row ℕ)). place) (take k t.places) (get_or t.places k None ∷ [])
    ∙ ap (λ (place : Option (Row ℕ)). rows_before t k ++ rows_in (place ∷ [])) is

none-more : (t : Places) (k : ℕ) → k < length t.places → row_at t k ≡ None → rows_before t (k + 1) ≡ rows_before t k
none-more t k lt is =
    ap rows_in (take_more t.places k None lt)
    ∙ filter_map-append (λ (place : Option (Row ℕ)). place) (take k t.places) (get_or t.places k None ∷ [])
    ∙ ap (λ (place : Option (Row ℕ)). rows_before t k ++ rows_in (place ∷ [])) is
    ∙ append-nil (rows_before t k)

rows-split : (t : Places) (k : ℕ) → rows_of t ≡ rows_before t k ++ rows_in (drop k t.places)
rows-split t k =
    ap rows_in (sym (take-append-drop k t.places))
    ∙ filter_map-append (λ (place : Option (Row ℕ)). place) (take k t.places) (drop k t.places)

pub rows-whole : (t : Places) (k : ℕ) → length t.places ≤ k → rows_before t k ≡ rows_of t
rows-whole t k past = ap rows_in (take_all k t.places past)

after-split : (t : Places) (first k : ℕ) → first ≤ k → k ≤ length t.places
    → rows_from_place t first ≡ rows_between t first k ++ rows_from_place t k
after-split t first k le within =
    ap (λ (ps : List (Option (Row ℕ))). rows_in (drop first ps)) (sym (take-append-drop k t.places))
    ∙ ap rows_in (drop-append-le first (take k t.places) (drop k t.places)
    (omega (arith, le, within, length-take k t.places)))
    ∙ filter_map-append (λ (place : Option (Row ℕ)). place) (drop first (take k t.places)) (drop k t.places)

-- rows more have no fewer nodes
nodes-more : (ys xs : List (Row ℕ)) → length (nodes nat_cmp xs) ≤ length (nodes nat_cmp (xs ++ ys))
nodes-more [] xs = subst (λ (rs : List (Row ℕ)). length (nodes nat_cmp xs) ≤ length (nodes nat_cmp rs))
    (sym (append-nil xs)) (omega arith)
nodes-more (y ∷ ys) xs =
    let one : length (nodes nat_cmp xs) ≤ length (nodes nat_cmp (xs ++ y ∷ [])) =
    subst (λ (rs : List (Row ℕ)). length (nodes nat_cmp rs) ≤ length (nodes nat_cmp (xs ++ y ∷ []))) (append-nil xs)
    (nodes_no_fewer nat_cmp_total nat_cmp-IsAntisymmetric xs y []) in
    let rest : length (nodes nat_cmp (xs ++ y ∷ [])) ≤ length (nodes nat_cmp (xs ++ y ∷ ys)) =
    subst (λ (rs : List (Row ℕ)). length (nodes nat_cmp (xs ++ y ∷ [])) ≤ length (nodes nat_cmp rs))
    (append_assoc xs (y ∷ []) ys) (nodes-more ys (xs ++ y ∷ [])) in
    omega (arith, one, rest)

pub nodes-before : (t : Places) (k : ℕ) → length (nodes nat_cmp (rows_before t k)) ≤ length (nodes nat_cmp (rows_of t))
nodes-before t k =
    subst (λ (rs : List (Row ℕ)). length (nodes nat_cmp (rows_before t k)) ≤ length (nodes nat_cmp rs))
    (sym (rows-split t k))
    (nodes-more (rows_in (drop k t.places)) (rows_before t k))

wide-before : (t : Places) (k : ℕ) → IsTable t
    → AllByRecursion (λ (row : Row ℕ). length row.tuple ≡ t.dims) (rows_before t k)
wide-before t k is =
    all_prefix (λ (row : Row ℕ). length row.tuple ≡ t.dims) (rows_before t k) (rows_in (drop k t.places))
    (subst (λ (rs : List (Row ℕ)). AllByRecursion (λ (row : Row ℕ). length row.tuple ≡ t.dims) rs) (rows-split t k)
    (rows-wide t is))

-- a tuple and amounts are those of the row at a place
pub record IsRowAt (t : Places) (k : ℕ) (u : Cell ℕ) (amounts : List ℤ) : Type 0 where
  pub row : Row ℕ
  pub place : row_at t k ≡ Some row
  pub tuple : cell_of row.tuple ≡ u
  pub sums : row.amounts ≡ amounts

pub row-there : (t : Places) (k place : ℕ) (u : Cell ℕ) (amounts : List ℤ) → place ≡ k → is_some (row_at t k) ≡ true
    → IfSome (row_at t place) (λ r. u ≡ cell_of r.tuple) → IfSome (row_at t place) (λ r. amounts ≡ r.amounts)
    → IsRowAt t k u amounts
row-there t k place u amounts same some tuple sums =
    go (row_at t k) refl some
    (subst (λ (n : ℕ). IfSome (row_at t n) (λ r. u ≡ cell_of r.tuple)) same tuple)
    (subst (λ (n : ℕ). IfSome (row_at t n) (λ r. amounts ≡ r.amounts)) same sums)
  where
    go : (o : Option (Row ℕ)) → row_at t k ≡ o → is_some o ≡ true → IfSome o (λ r. u ≡ cell_of r.tuple)
        → IfSome o (λ r. amounts ≡ r.amounts) → IsRowAt t k u amounts
    go None is some tuple sums = absurd (true≢false (sym some))
    go (Some row) is some tuple sums = record { row = row; place = is; tuple = sym tuple; sums = sym sums }

full-cell : (values : List ℕ) → All (λ (entry : Option ℕ). is_some entry ≡ true) (cell_of values)
full-cell [] = All-nil (λ (entry : Option ℕ). is_some entry ≡ true)
full-cell (v ∷ values) =
    All-cons (λ (entry : Option ℕ). is_some entry ≡ true) (Some v) (cell_of values) refl (full-cell values)

pub full-at : (t : Places) (k : ℕ) (u : Cell ℕ) (amounts : List ℤ) → IsRowAt t k u amounts
    → All (λ (entry : Option ℕ). is_some entry ≡ true) u
full-at t k u amounts r
    = subst (λ (c : Cell ℕ). All (λ (entry : Option ℕ). is_some entry ≡ true) c) r.tuple (full-cell r.row.tuple)

plus-none : (new old x : ℕ) → new ≤ old + x → new ≤ old + (x + 0)
plus-none new old x le = omega (arith, le)

module _ (t : Places) (a : Arena) (k : ℕ) (u : Cell ℕ) (amounts : List ℤ) (is : IsTable t) (width : a.width ≡ t.dims)
    (tree : IsTreeBefore t a k) (lt : k < length t.places) (r : IsRowAt t k u amounts)
    (measures : length amounts ≡ t.measures) where
  from-before : IsTreeOf a.width a.now (record { measures = length amounts; rows = rows_before t k })
  from-before = record {
    wide = subst (λ (n : ℕ). AllByRecursion (λ (row : Row ℕ). length row.tuple ≡ n) (rows_before t k)) (sym width)
        (wide-before t k is);
    canonical = subst (λ (n : ℕ). IsCanonical nat_cmp n (rows_before t k) a.now) (sym measures) tree.canonical;
  }

  few-before : length (rows_before t k) < 1000000
  few-before =
      let whole : length (rows_of t) ≡ length (rows_before t (k + 1)) + length (rows_in (drop (k + 1) t.places)) =
      ap (λ (rs : List (Row ℕ)). length rs) (rows-split t (k + 1))
      ∙ length-append (rows_before t (k + 1)) (rows_in (drop (k + 1) t.places)) in
      let one : length (rows_before t (k + 1)) ≡ length (rows_before t k) + 1 =
      ap (λ (rs : List (Row ℕ)). length rs) (row-more t k r.row lt r.place)
      ∙ length-append (rows_before t k) (r.row ∷ []) in
      let most : t.max ≤ 1000000 = is.few_rows in
      omega (arith, whole, one, most, is.rows.few)

  pub source-before : IsSource (length amounts) a
  source-before = (record { measures = length amounts; rows = rows_before t k }, from-before, refl, few-before)

  -- what holds wherever the row comes holds with the rows before it
  at-row : (Holds : List (Row ℕ) → Row ℕ → List (Row ℕ) → Type 0) → ForRow u amounts a Holds
      → Holds (rows_before t k) r.row (rows_before t (k + 1))
  at-row Holds all =
      subst (λ (rs : List (Row ℕ)). Holds rs r.row (rows_before t (k + 1))) (append-nil (rows_before t k))
      (subst (λ (rs : List (Row ℕ)). Holds (rows_before t k ++ []) r.row rs) (sym (row-more t k r.row lt r.place))
      (all (rows_before t k) r.row [] r.tuple r.sums
      (subst (λ (rs : List (Row ℕ)). IsTreeOf a.width a.now (record { measures = length amounts; rows = rs }))
      (sym (append-nil (rows_before t k))) from-before)))

  pub row-came : (b : Arena) → b.max ≡ a.max
      → ForRow u amounts a (λ before row after. IsTreeOf a.width b.now
      (record { measures = length amounts; rows = after }))
      → ForRow u amounts a (λ before row after. length (nodes nat_cmp after) ≤ a.max) → IsTreeBefore t b (k + 1)
  row-came b max from fits = record {
    within = omega (arith, lt);
    canonical =
        subst (λ (n : ℕ). IsCanonical nat_cmp n (rows_before t (k + 1)) b.now) measures
        (at-row (λ before row after. IsTreeOf a.width b.now (record { measures = length amounts; rows = after }))
        from).canonical;
    fits =
        subst (λ (n : ℕ). length (nodes nat_cmp (rows_before t (k + 1))) ≤ n) (sym max)
        (at-row (λ before row after. length (nodes nat_cmp after) ≤ a.max) fits);
  }

  pub row-full : ForRow u amounts a (λ before row after. a.max < length (nodes nat_cmp after))
      → a.max < length (nodes nat_cmp (rows_before t (k + 1)))
  row-full full = at-row (λ before row after. a.max < length (nodes nat_cmp after)) full

  -- what the row alone keeps and costs
  pub row-costs : (old new : ℕ)
      → ForRow u amounts a (λ before row after. new ≤ old
      + 256 * (length u + 1) ^ 2 * (affected_size nat_cmp before after row.tuple + 1)) → length u ≡ t.dims
      → new ≤ old + cost_of_insertions t.dims (rows_before t k) (rows_at t k)
  row-costs old new steps dims =
      let one : new ≤ old + 256 * (length u + 1) ^ 2 * (affected_size nat_cmp (rows_before t k)
      (rows_before t (k + 1)) r.row.tuple + 1) =
      at-row (λ before row after. new ≤ old + 256 * (length u + 1) ^ 2 * (affected_size nat_cmp before after row.tuple
      + 1)) steps in
      let wide : new ≤ old + 256 * (t.dims + 1) ^ 2 * (affected_size nat_cmp (rows_before t k)
      (rows_before t (k + 1)) r.row.tuple + 1) =
      subst (λ (n : ℕ). new ≤ old
      + 256 * (n + 1) ^ 2 * (affected_size nat_cmp (rows_before t k) (rows_before t (k + 1)) r.row.tuple + 1)) dims
      one in
      let with : new ≤ old + 256 * (t.dims + 1) ^ 2 * (affected_size nat_cmp (rows_before t k)
      (rows_before t k ++ r.row ∷ []) r.row.tuple + 1) =
      subst (λ (rs : List (Row ℕ)). new ≤ old
      + 256 * (t.dims + 1) ^ 2 * (affected_size nat_cmp (rows_before t k) rs r.row.tuple + 1))
      (row-more t k r.row lt r.place) wide in
      subst (λ (o : Option (Row ℕ)). new ≤ old + cost_of_insertions t.dims (rows_before t k) (rows_in (o ∷ [])))
      (sym r.place)
      (plus-none new old (256 * (t.dims + 1) ^ 2 * (affected_size nat_cmp (rows_before t k)
      (rows_before t k ++ r.row ∷ []) r.row.tuple + 1)) with)

pub row-apart : (t : Places) (k : ℕ) (u : Cell ℕ) (amounts : List ℤ) → IsRowAt t k u amounts → (b d : Tree ℕ)
    → ((q : ℕ) (n : Node ℕ ℕ) → finmap.get b q ≡ Some n → leq nat_eq n.cell u ≡ false → finmap.get d q ≡ Some n)
    → KeepsOtherRecords (rows_at t k) b d
row-apart t k u amounts r b d each q n h all =
    let Apart : Row ℕ → Type 0 = λ row. leq nat_eq n.cell (cell_of row.tuple) ≡ false in
    let here : All Apart (r.row ∷ []) = subst (λ (o : Option (Row ℕ)). All Apart (rows_in (o ∷ []))) r.place all in
    each q n h (subst (λ (c : Cell ℕ). leq nat_eq n.cell c ≡ false) r.tuple (All-head Apart r.row [] here))

pub none-costs : (t : Places) (k n : ℕ) → row_at t k ≡ None
    → n ≤ n + cost_of_insertions t.dims (rows_before t k) (rows_at t k)
none-costs t k n is = subst (λ (o : Option (Row ℕ)). n ≤ n + cost_of_insertions t.dims (rows_before t k)
    (rows_in (o ∷ []))) (sym is) (omega arith)

-- rows between two places
pub between-none : (t : Places) (k : ℕ) → rows_between t k k ≡ []
between-none t k = ap rows_in (drop_all k (take k t.places) (omega (arith, length-take k t.places)))

pub between-more : (t : Places) (first k : ℕ) → first ≤ k → k < length t.places
    → rows_between t first (k + 1) ≡ rows_between t first k ++ rows_at t k
between-more t first k le lt =
    ap (λ (ps : List (Option (Row ℕ))). rows_in (drop first ps)) (take_more t.places k None lt)
    ∙ ap rows_in (drop-append-le first (take k t.places) (get_or t.places k None ∷ [])
    (omega (arith, le, lt, length-take k t.places)))
    ∙ filter_map-append (λ (place : Option (Row ℕ)). place) (drop first (take k t.places)) (get_or t.places k None ∷ [])

pub between-all : (t : Places) (first k : ℕ) → length t.places ≤ k → rows_between t first k ≡ rows_from_place t first
between-all t first k past = ap (λ (ps : List (Option (Row ℕ))). rows_in (drop first ps)) (take_all k t.places past)

before-between : (t : Places) (first k : ℕ) → first ≤ k
    → rows_before t first ++ rows_between t first k ≡ rows_before t k
before-between t first k le =
    ap (λ (ps : List (Option (Row ℕ))). rows_in ps ++ rows_between t first k) (sym (take-take first k t.places le))
    ∙ sym (filter_map-append (λ (place : Option (Row ℕ)). place) (take first (take k t.places))
    (drop first (take k t.places)))
    ∙ ap rows_in (take-append-drop first (take k t.places))

pub all-left : {X : Type 0} (P : X → Type 0) (xs ys : List X) → All P (xs ++ ys) → All P xs
all-left P [] ys all = All-nil P
all-left P (x ∷ xs) ys all
    = All-cons P x xs (All-head P x (xs ++ ys) all) (all-left P xs ys (All-tail P x (xs ++ ys) all))

pub all-right : {X : Type 0} (P : X → Type 0) (xs ys : List X) → All P (xs ++ ys) → All P ys
all-right P [] ys all = all
all-right P (x ∷ xs) ys all = all-right P xs ys (All-tail P x (xs ++ ys) all)

pub apart-none : (t : Places) (k : ℕ) (b : Tree ℕ) → KeepsOtherRecords (rows_between t k k) b b
apart-none t k b q n h all = h

pub apart-more : (t : Places) (first k : ℕ) (b d e : Tree ℕ) → first ≤ k → k < length t.places
    → KeepsOtherRecords (rows_between t first k) b d → KeepsOtherRecords (rows_at t k) d e
    → KeepsOtherRecords (rows_between t first (k + 1)) b e
apart-more t first k b d e le lt one two q n h all =
    let Apart : Row ℕ → Type 0 = λ row. leq nat_eq n.cell (cell_of row.tuple) ≡ false in
    let both : All Apart (rows_between t first k ++ rows_at t k)
    = subst (λ (rs : List (Row ℕ)). All Apart rs) (between-more t first k le lt) all in
    two q n (one q n h (all-left Apart (rows_between t first k) (rows_at t k) both))
    (all-right Apart (rows_between t first k) (rows_at t k) both)

-- the rows after the first places are apart from more nodes
pub apart-later : (t : Places) (first k : ℕ) (b d e : Tree ℕ) → k < length t.places
    → KeepsOtherRecords (rows_between t first k) b d → KeepsOtherRecords (rows_at t k) d e → first ≤ k
    → KeepsOtherRecords (rows_from_place t first) b e
apart-later t first k b d e lt one two le q n h all =
    let Apart : Row ℕ → Type 0 = λ row. leq nat_eq n.cell (cell_of row.tuple) ≡ false in
    let split : rows_from_place t first ≡ rows_between t first (k + 1) ++ rows_from_place t (k + 1)
    = after-split t first (k + 1) (omega (arith, le)) (omega (arith, lt)) in
    apart-more t first k b d e le lt one two q n h
    (all-left Apart (rows_between t first (k + 1)) (rows_from_place t (k + 1))
    (subst (λ (rs : List (Row ℕ)). All Apart rs) split all))

-- costs of rows one after another
pub plus-more : (a b c d : ℕ) → b ≡ c + d → a + b ≡ (a + c) + d
plus-more a b c d same = omega (arith, same)

plus-zero : (n : ℕ) → n ≡ 0 + n
plus-zero n = omega arith

cost-more : (ys : List (Row ℕ)) (dims : ℕ) (xs zs : List (Row ℕ))
    → cost_of_insertions dims xs (ys ++ zs) ≡ cost_of_insertions dims xs ys + cost_of_insertions dims (xs ++ ys) zs
cost-more [] dims xs zs = ap (λ (rs : List (Row ℕ)). cost_of_insertions dims rs zs) (sym (append-nil xs))
    ∙ plus-zero (cost_of_insertions dims (xs ++ []) zs)
cost-more (y ∷ ys) dims xs zs =
    let rest : cost_of_insertions dims (xs ++ y ∷ []) (ys ++ zs) ≡ cost_of_insertions dims (xs ++ y ∷ []) ys
    + cost_of_insertions dims (xs ++ y ∷ ys) zs =
    cost-more ys dims (xs ++ y ∷ []) zs
    ∙ ap (λ (rs : List (Row ℕ)). cost_of_insertions dims (xs ++ y ∷ []) ys + cost_of_insertions dims rs zs)
    (append_assoc xs (y ∷ []) ys) in
    plus-more (256 * (dims + 1) ^ 2 * (affected_size nat_cmp xs (xs ++ y ∷ []) y.tuple + 1))
    (cost_of_insertions dims (xs ++ y ∷ []) (ys ++ zs)) (cost_of_insertions dims (xs ++ y ∷ []) ys)
    (cost_of_insertions dims (xs ++ y ∷ ys) zs) rest

pub steps-none : (t : Places) (k n : ℕ) → n ≤ n + cost_of_insertions t.dims (rows_before t k) (rows_between t k k)
steps-none t k n = subst (λ (rs : List (Row ℕ)). n ≤ n + cost_of_insertions t.dims (rows_before t k) rs)
    (sym (between-none t k)) (omega arith)

pub steps-more : (t : Places) (first k begun here now : ℕ) → first ≤ k → k < length t.places
    → here ≤ begun + cost_of_insertions t.dims (rows_before t first) (rows_between t first k)
    → now ≤ here + cost_of_insertions t.dims (rows_before t k) (rows_at t k)
    → now ≤ begun + cost_of_insertions t.dims (rows_before t first) (rows_between t first (k + 1))
steps-more t first k begun here now le lt one two =
    let whole : cost_of_insertions t.dims (rows_before t first) (rows_between t first (k + 1))
    ≡ cost_of_insertions t.dims (rows_before t first) (rows_between t first k) + cost_of_insertions t.dims
    (rows_before t k) (rows_at t k) =
    ap (λ (rs : List (Row ℕ)). cost_of_insertions t.dims (rows_before t first) rs) (between-more t first k le lt)
    ∙ cost-more (rows_between t first k) t.dims (rows_before t first) (rows_at t k)
    ∙ ap (λ (rs : List (Row ℕ)). cost_of_insertions t.dims (rows_before t first) (rows_between t first k)
    + cost_of_insertions t.dims rs (rows_at t k)) (before-between t first k le) in
    omega (arith, whole, one, two)

-- at an empty place no row comes
pub none-came : (t : Places) (a : Arena) (k : ℕ) → IsTreeBefore t a k → k < length t.places → row_at t k ≡ None
    → IsTreeBefore t a (k + 1)
none-came t a k tree lt is =
    let same = none-more t k lt is in
    record {
      within = omega (arith, lt);
      canonical = subst (λ (rs : List (Row ℕ)). IsCanonical nat_cmp t.measures rs a.now) (sym same) tree.canonical;
      fits = subst (λ (rs : List (Row ℕ)). length (nodes nat_cmp rs) ≤ a.max) (sym same) tree.fits;
    }

-- rows of codes that are picked by their ids are those of the texts that are
pub codes-picked : (p : ℕ → Bool) (before now : List (List Text)) (rows : List (Row ℕ)) → AreLonger before now
    → RowsAreCodes before rows → All (IsDistinct bytes_eq) now
    → filter (λ row. p row.id) rows ≡ with_codes now (filter (λ row. p row.id) (map (decoded_row before) rows))
codes-picked p before now rows longer known distinct =
    let picked = filter (λ (row : Row ℕ). p row.id) rows in
    let are : RowsAreCodes before picked
    = All-filter (λ (row : Row ℕ). p row.id) (λ (row : Row ℕ). AreCodes before row.tuple) rows known in
    sym (rows-back now picked (known-longer before now picked longer are) distinct)
    ∙ ap (with_codes now) (rows-longer before now picked longer are ∙ sym (filter-decoded p before rows))

pub codes-all : (before now : List (List Text)) (rows : List (Row ℕ)) → AreLonger before now → RowsAreCodes before rows
    → All (IsDistinct bytes_eq) now → rows ≡ with_codes now (map (decoded_row before) rows)
codes-all before now rows longer known distinct =
    sym (rows-back now rows (known-longer before now rows longer known) distinct)
    ∙ ap (with_codes now) (rows-longer before now rows longer known)

-- a batch: the rows that go, those that are left, and those that come, with codes for their texts
module _ (rows : List (Row ℕ)) (t : Places) (first : ℕ) (before now : List (List Text)) (changes : List (Change Text))
    (longer : AreLonger before now) (known : RowsAreCodes before rows) (known' : RowsAreCodes now (rows_of t))
    (distinct : All (IsDistinct bytes_eq) now) (left : rows_before t first ≡ kept (deleted changes) rows)
    (made : map (decoded_row now) (rows_of t) ≡ rows_after (map (decoded_row before) rows) changes) where
  pub left-rows : rows_before t first ≡ with_codes now (kept (deleted changes) (map (decoded_row before) rows))
  left-rows = left ∙ codes-picked (λ (id : ℕ). not (is_among id (deleted changes))) before now rows longer
      known distinct

  pub gone-rows : gone (deleted changes) rows ≡ with_codes now (gone (deleted changes) (map (decoded_row before) rows))
  gone-rows = codes-picked (λ (id : ℕ). is_among id (deleted changes)) before now rows longer known distinct

  added : map (decoded_row now) (rows_from_place t first) ≡ inserted changes
  added =
      let old = kept (deleted changes) rows in
      let are : RowsAreCodes before old
      = All-filter (λ (row : Row ℕ). not (is_among row.id (deleted changes)))
      (λ (row : Row ℕ). AreCodes before row.tuple) rows known in
      let same : map (decoded_row now) (rows_before t first) ≡ kept (deleted changes) (map (decoded_row before) rows) =
      ap (map (decoded_row now)) left ∙ rows-longer before now old longer are
      ∙ sym (filter-decoded (λ (id : ℕ). not (is_among id (deleted changes))) before rows) in
      append_cancel_left (kept (deleted changes) (map (decoded_row before) rows))
      (map (decoded_row now) (rows_from_place t first)) (inserted changes)
      (ap (λ (rs : List (Row Text)). rs ++ map (decoded_row now) (rows_from_place t first)) (sym same)
      ∙ sym (map-append (decoded_row now) (rows_before t first) (rows_from_place t first))
      ∙ ap (map (decoded_row now)) (sym (rows-split t first))
      ∙ made)

  pub later-rows : rows_from_place t first ≡ with_codes now (inserted changes)
  later-rows =
      sym (rows-back now (rows_from_place t first)
      (all-right (λ (row : Row ℕ). AreCodes now row.tuple) (rows_before t first) (rows_from_place t first)
      (subst (λ (rs : List (Row ℕ)). RowsAreCodes now rs) (rows-split t first) known')) distinct)
      ∙ ap (with_codes now) added

  pub changed-rows : with_codes now (gone (deleted changes) (map (decoded_row before) rows) ++ inserted changes)
      ≡ gone (deleted changes) rows ++ rows_from_place t first
  changed-rows =
      map-append (coded_row (place_in now)) (gone (deleted changes) (map (decoded_row before) rows)) (inserted changes)
      ∙ ap₂ (λ (xs ys : List (Row ℕ)). xs ++ ys) (sym gone-rows) (sym later-rows)

  pub batch-numbers : (b d e : Tree ℕ) → KeepsNodes (kept (deleted changes) rows) b d → KeepsNumbers d e
      → KeepsNodes (with_codes now (kept (deleted changes) (map (decoded_row before) rows))) b e
  batch-numbers b d e one two =
      subst (λ (rs : List (Row ℕ)). KeepsNodes rs b e) (sym left ∙ left-rows) (λ k c h node. two k c (one k c h node))

  pub batch-apart : (b d e : Tree ℕ) → KeepsOtherRecords (gone (deleted changes) rows) b d
      → KeepsOtherRecords (rows_from_place t first) d e
      → KeepsOtherRecords (with_codes now (gone (deleted changes) (map (decoded_row before) rows) ++ inserted changes))
      b e
  batch-apart b d e one two k n h all =
      let Apart : Row ℕ → Type 0 = λ row. leq nat_eq n.cell (cell_of row.tuple) ≡ false in
      let both : All Apart (gone (deleted changes) rows ++ rows_from_place t first)
      = subst (λ (rs : List (Row ℕ)). All Apart rs) changed-rows all in
      two k n (one k n h (all-left Apart (gone (deleted changes) rows) (rows_from_place t first) both))
      (all-right Apart (gone (deleted changes) rows) (rows_from_place t first) both)

  pub batch-steps : (dims begun here end : ℕ) → here ≤ begun + cost_of_deletions dims rows (deleted changes)
      → end ≤ here + cost_of_insertions dims (rows_before t first) (rows_from_place t first)
      → end ≤ begun + cost_of_batch dims now (map (decoded_row before) rows) changes
  batch-steps dims begun here end one two =
      let going : here ≤ begun + cost_of_deletions dims (with_codes now (map (decoded_row before) rows))
      (deleted changes) =
      subst (λ (rs : List (Row ℕ)). here ≤ begun + cost_of_deletions dims rs (deleted changes))
      (codes-all before now rows longer known distinct) one in
      let coming : end ≤ here + cost_of_insertions dims
      (with_codes now (kept (deleted changes) (map (decoded_row before) rows))) (with_codes now (inserted changes))
      =
      subst (λ (rs : List (Row ℕ)). end ≤ here + cost_of_insertions dims rs (with_codes now (inserted changes)))
      left-rows
      (subst (λ (rs : List (Row ℕ)). end ≤ here + cost_of_insertions dims (rows_before t first) rs) later-rows two) in
      omega (arith, going, coming)

-- what a call says of the changes that it read holds of those that the file gives
ok-same : (read : Result (List (Change Text)) Fault) (xs ys : List (Change Text)) → read ≡ Ok xs
    → read ≡ Ok ys → xs ≡ ys
ok-same read xs ys one two = cc

pub of-batch : {T E : Type 0} (result : Result T E) (schema : Layout) (bytes : List ℕ) (changes : List (Change Text))
    (Holds : List (Change Text) → Type 0) → batch_in schema bytes ≡ Ok changes
    → OnOk result (Holds changes) → OnOk result (OfBatch schema bytes Holds)
of-batch (Err e) schema bytes changes Holds same holds = tt
of-batch (Ok x) schema bytes changes Holds same holds = λ other read.
    subst Holds (ok-same (batch_in schema bytes) changes other same read) holds
