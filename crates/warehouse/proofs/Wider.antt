-- The parts of a warehouse with one dimension more.
use Rattle.std.proofs.Common.{◌≡◌, ℕ, ◌*◌, ◌+◌, ◌<◌, ◌≤◌, Bool, true, false, cond, Option, Some, None, List, [], ◌∷◌, ◌++◌, get_or, length}
use Rattle.std.proofs.Common.{is_some, map, nat_le, nat_lt, slice_get, suc, true≢false, zero, refl, sym, ap, ap₂, subst, ◌∙◌, arith}
use Rattle.std.specs.Prelude.{Err, IfSome, Ok, Result}
use Rattle.std.specs.Cmp.{nat_cmp_total}
use Rattle.std.specs.FinMap as finmap
use Rattle.std.specs.List.{All, AllByRecursion}
use Rattle.std.specs.Option.{option_and_then, option_map}
use Rattle.std.specs.Ordering.{eq_by_cmp, nat_cmp}
use Rattle.std.proofs.lemmas.List.{length-append}
use Rattle.std.proofs.lemmas.Nat.{mul-le}
use Rattle.std.proofs.lemmas.List.Elements.{All-cons, All-head, All-nil, All-push, All-tail}
use Rattle.base_table.specs.Places.{IsTable, Places, rows_of, with_code}
use Rattle.csv_load.specs.Batch.{IsValue}
use Rattle.cube_defs.specs.Cell.{Cell, cell_eq, depth, depth_with, with_value}
use Rattle.cube_defs.specs.Rows.{Agg, Row}
use Rattle.cube_defs.specs.Text.{Text, text_cmp}
use Rattle.cube_defs.specs.Tree.{Edge, Tree, cell_at, classes, forced_child, next_value, renamed_edge}
use Rattle.cube_laws.specs.Lists.{Among}
use Rattle.cube_laws.proofs.CallerLemmas.{all_from, among_map, cell_eq-exact, map_among, node_closed, equality_by}
use Rattle.qc_arena.specs.Map.{Arena, Known, edges_in, is_open}
use Rattle.qc_schema.specs.Schema.{IsLayout, Layout, max_dims, with_dim}
use Rattle.tree_laws.specs.Labels.{record_of}
use Rattle.tree_laws.proofs.CallerLemmas.{next-ge, node_wide, nodes_counted, edges-are, some_same, record_read}
use Rattle.tree_search.specs.Found.{IsTreeOf, TreeRows}
use Rattle.value_dict.specs.TextLists as texts
use Rattle.value_dict.specs.TextLists.{IsDictionary, TextLists}
use Rattle.value_dict.specs.Decoded.{AreCodes, RowsAreCodes, decoded, decoded_row}
use Rattle.warehouse.specs.Batch.{Applied}
use Rattle.warehouse.specs.ClassMoves.{IsWide}
use Rattle.warehouse.specs.Steps.{frame}
use Rattle.warehouse.specs.Stored.{IsStored, IsTreeOfTable, state_of}
use Rattle.warehouse.specs.State.{State}
use Rattle.warehouse.specs.Widening.{KeepsWidened, WidenRefusal, nodes_then, size_of, steps_of_widening, widen_refusal_in, widen_result}
use Rattle.warehouse.specs.Widening.{widened}
use Rattle.warehouse.specs.Widening as wide
use Rattle.warehouse.specs.declared.refused.WidenRefused.{WidenRefused}
use Rattle.warehouse.specs.declared.refused.WidenRefused.TheVariants as refusals
use Rattle.widen_laws.proofs.CallerLemmas.{widened_canonical}
use Rattle.widen_laws.specs.Widened.{all_longer}

-- a dimension with a value is less than the depth
value_within : (c : Cell ℕ) (i v : ℕ) → slice_get c i ≡ Some (Some v) → i < depth c
value_within [] i v e = cc
value_within (Some w ∷ c) zero v e = omega arith
value_within (None ∷ c) zero v e = absurd (cc e)
value_within (Some w ∷ c) (suc i) v e = omega (arith, value_within c i v e)
value_within (None ∷ c) (suc i) v e = deeper (depth c) (value_within c i v e)
  where
    deeper : (n : ℕ) → i < n → suc i < depth_with {A = ℕ} None n
    deeper zero l = absurd (omega (arith, l))
    deeper (suc n) l = omega (arith, l)

-- a class's own cell has no next value, so it has no forced child
no_forced : (c : Cell ℕ) → forced_child nat_cmp c c (next_value nat_cmp (depth c) c) ≡ None
no_forced c = go (slice_get c (next_value nat_cmp (depth c) c)) refl
  where
    go : (o : Option (Option ℕ)) → slice_get c (next_value nat_cmp (depth c) c) ≡ o
        → option_and_then (λ entry. option_map (λ v. let x : Edge ℕ (Cell ℕ) = record {
          dim = next_value nat_cmp (depth c) c;
          value = v;
          target
              = with_value c (next_value nat_cmp (depth c) c) v;
        } in x) entry) o ≡ None
    go None e = refl
    go (Some None) e = refl
    go (Some (Some v)) e = absurd (let within = value_within c (next_value nat_cmp (depth c) c) v e in
        let behind = next-ge nat_cmp (depth c) c in omega (arith, within, behind))

module _ (dims : ℕ) (tree : Tree ℕ) (s : TreeRows) (from : IsTreeOf dims tree s) where
  -- what the record of a node says by its cell
  class_unforced : (k : ℕ) (n : Known) → finmap.get tree k ≡ Some n → is_some n.class ≡ true → n.forced ≡ None
  class_unforced k n g class =
      let law = equality_by nat_cmp_total finmap.nat_cmp-IsAntisymmetric in
      let c = node_closed law s.rows n.cell (from.canonical.each k n g).0 in
      let read = record_read nat_cmp_total finmap.nat_cmp-IsAntisymmetric dims s.measures s.rows from.wide tree
      from.canonical k n c.0 g c.1 in
      let own : cell_eq (eq_by_cmp nat_cmp) c.0 n.cell ≡ true
      = tested (cell_eq (eq_by_cmp nat_cmp) c.0 n.cell) _ (sym (ap (λ z. is_some z.class) read) ∙ class) in
      let same : c.0 ≡ n.cell = cell_eq-exact law c.0 n.cell own in
      unnamed n.forced (ap (λ z. z.forced) read
      ∙ ap (option_map (renamed_edge (λ (d : Cell ℕ). Some d)))
      (ap (λ u. forced_child nat_cmp n.cell u (next_value nat_cmp (depth n.cell) u)) same ∙ no_forced n.cell))
    where
      tested : (b : Bool) (a : Agg) → is_some (cond b (Some a) None) ≡ true → b ≡ true
      tested true a e = refl
      tested false a e = absurd (true≢false (sym e))

      unnamed : (o : Option (Edge ℕ ℕ)) → option_map (renamed_edge (cell_at tree)) o ≡ None → o ≡ None
      unnamed None e = refl
      unnamed (Some x) e = absurd (cc e)

  label_within : (k : ℕ) (n : Known) → finmap.get tree k ≡ Some n → (x : Edge ℕ ℕ) → Among x n.edges → x.dim < dims
  label_within k n g x h =
      let c = node_closed (equality_by nat_cmp_total finmap.nat_cmp-IsAntisymmetric) s.rows n.cell
      (from.canonical.each k n g).0 in
      let read = record_read nat_cmp_total finmap.nat_cmp-IsAntisymmetric dims s.measures s.rows from.wide tree
      from.canonical k n c.0 g c.1 in
      let m = record_of nat_cmp s.measures s.rows n.cell c.0 in
      let y : (y : Edge ℕ (Cell ℕ)) × Among y m.edges × (renamed_edge (cell_at tree) x ≡ renamed_edge (λ c. Some c) y)
      = among_map (renamed_edge (λ c. Some c)) (renamed_edge (cell_at tree) x) m.edges
      (subst (λ zs. Among (renamed_edge (cell_at tree) x) zs) (ap (λ z. z.edges) read)
      (map_among (renamed_edge (cell_at tree)) x n.edges h)) in
      let l = (edges-are nat_cmp_total finmap.nat_cmp-IsAntisymmetric s.measures s.rows n.cell c.0 c.1 c.2 y.0).0 y.1 in
      let wide = node_wide nat_cmp_total finmap.nat_cmp-IsAntisymmetric dims s.measures s.rows from.wide tree
      from.canonical k n g in
      let d : x.dim ≡ y.0.dim = ap (λ z. z.dim) y.2 in
      let w = l.place.within in
      omega arith

  -- the cells of a canonical tree have all dimensions, no label has another, and no class has a forced child
  pub is-wide : IsWide dims tree
  is-wide = record {
    cells = λ k n g. node_wide nat_cmp_total finmap.nat_cmp-IsAntisymmetric dims s.measures s.rows from.wide tree
        from.canonical k n g;
    labels = λ k n g. all_from (λ x. x.dim < dims) n.edges (label_within k n g);
    unforced = class_unforced;
  }

wide-longer : (n : ℕ) (rows : List (Row ℕ)) → AllByRecursion (λ row. length row.tuple ≡ n) rows
    → AllByRecursion (λ row. length row.tuple ≡ n + 1) (map (with_code 0) rows)
wide-longer n [] wide = tt
wide-longer n (row ∷ rows) wide = (omega (arith, length-append row.tuple (0 ∷ []), wide.0), wide-longer n rows wide.1)

-- the tree that is widened is that of the rows with the code 0
pub tree-wide : (dims measures : ℕ) (rows : List (Row ℕ)) (tree after : Tree ℕ)
    → IsTreeOf dims tree (record { measures = measures; rows = rows }) → KeepsWidened dims tree after
    → IsTreeOf (dims + 1) after (record { measures = measures; rows = map (with_code 0) rows })
tree-wide dims measures rows tree after from is = record {
  wide = wide-longer dims rows from.wide;
  canonical = widened_canonical nat_cmp_total finmap.nat_cmp-IsAntisymmetric 0 dims measures rows from.wide tree after
      is.0 from.canonical is.1;
}

-- the texts of longer codes
decoded-longer : (lists : List (List Text)) (codes : List ℕ) (value : Text) → AreCodes lists codes
    → length codes ≡ length lists
    → decoded (lists ++ (value ∷ []) ∷ []) (codes ++ 0 ∷ []) ≡ decoded lists codes ++ value ∷ []
decoded-longer [] [] value are long = refl
decoded-longer [] (code ∷ codes) value are long = absurd are
decoded-longer (texts ∷ lists) [] value are long = absurd (omega (arith, long))
decoded-longer (texts ∷ lists) (code ∷ codes) value are long
    = ap (λ (ts : List Text). get_or texts code [] ∷ ts) (decoded-longer lists codes value are.1 (omega (arith, long)))

codes-longer : (lists : List (List Text)) (codes : List ℕ) (value : Text) → AreCodes lists codes
    → length codes ≡ length lists → AreCodes (lists ++ (value ∷ []) ∷ []) (codes ++ 0 ∷ [])
codes-longer [] [] value are long = (omega arith, tt)
codes-longer [] (code ∷ codes) value are long = absurd are
codes-longer (texts ∷ lists) [] value are long = absurd (omega (arith, long))
codes-longer (texts ∷ lists) (code ∷ codes) value are long
    = (are.0, codes-longer lists codes value are.1 (omega (arith, long)))

abbrev AreLong : ℕ → List (Row ℕ) → Type 0
AreLong n rows = AllByRecursion (λ row. length row.tuple ≡ n) rows

rows-longer : (lists : List (List Text)) (rows : List (Row ℕ)) (value : Text) → RowsAreCodes lists rows
    → AreLong (length lists) rows
    → map (decoded_row (lists ++ (value ∷ []) ∷ [])) (map (with_code 0) rows) ≡ all_longer value
    (map (decoded_row lists) rows)
rows-longer lists [] value are long = refl
rows-longer lists (row ∷ rows) value are long =
    ap₂ (λ (tuple : List Text) (rs : List (Row Text)). record {
      id = row.id;
      tuple = tuple;
      amounts
          = row.amounts;
    } ∷ rs)
    (decoded-longer lists row.tuple value (All-head (λ (r : Row ℕ). AreCodes lists r.tuple) row rows are) long.0)
    (rows-longer lists rows value (All-tail (λ (r : Row ℕ). AreCodes lists r.tuple) row rows are) long.1)

known-longer : (lists : List (List Text)) (rows : List (Row ℕ)) (value : Text) → RowsAreCodes lists rows
    → AreLong (length lists) rows → RowsAreCodes (lists ++ (value ∷ []) ∷ []) (map (with_code 0) rows)
known-longer lists [] value are long = All-nil (λ (r : Row ℕ). AreCodes (lists ++ (value ∷ []) ∷ []) r.tuple)
known-longer lists (row ∷ rows) value are long =
    All-cons (λ (r : Row ℕ). AreCodes (lists ++ (value ∷ []) ∷ []) r.tuple) (with_code 0 row) (map (with_code 0) rows)
    (codes-longer lists row.tuple value (All-head (λ (r : Row ℕ). AreCodes lists r.tuple) row rows are) long.0)
    (known-longer lists rows value (All-tail (λ (r : Row ℕ). AreCodes lists r.tuple) row rows are) long.1)

module _ (schema : Layout) (dict : TextLists) (table table' : Places) (name value : Text)
    (is : IsStored schema dict table) (from : AreLong (length schema.dims) (rows_of table))
    (rows : rows_of table' ≡ map (with_code 0) (rows_of table))
    (rest : frame table' ≡ record (frame table) { dims = table.dims + 1 }) where
  long : AreLong (length dict.lists) (rows_of table)
  long = subst (λ n. AreLong n (rows_of table)) (sym is.lists) from

  -- what is kept of the rows with the dimension
  pub stored-wide : IsLayout (with_dim schema name) → IsTable table' → IsDictionary (texts.with_dim dict value)
      → IsValue value → IsStored (with_dim schema name) (texts.with_dim dict value) table'
  stored-wide layout valid dictionary good = record {
    layout = layout;
    lists = length-append dict.lists ((value ∷ []) ∷ []) ∙ ap (λ n. n + 1) is.lists
        ∙ sym (length-append schema.dims (name ∷ []));
    most_texts = is.most_texts;
    dims = ap (λ (t : Places). t.dims) rest ∙ ap (λ n. n + 1) is.dims ∙ sym (length-append schema.dims (name ∷ []));
    measures = ap (λ (t : Places). t.measures) rest ∙ is.measures;
    most_rows = ap (λ (t : Places). t.max) rest ∙ is.most_rows;
    closed = ap (λ (t : Places). t.was) rest ∙ is.closed;
    values = All-push (All IsValue) dict.lists (value ∷ []) is.values
        (All-cons IsValue value [] good (All-nil IsValue));
    known = subst (λ rs. RowsAreCodes (dict.lists ++ (value ∷ []) ∷ []) rs) (sym rows)
        (known-longer dict.lists (rows_of table) value is.known long);
    dictionary = dictionary;
    are_rows = valid;
  }

  -- and the state
  pub state-wide : state_of (with_dim schema name) (texts.with_dim dict value) table' ≡ widened name value
      (state_of schema dict table)
  state-wide =
      ap (λ (rs : List (Row Text)). let s : State
      = record { schema = with_dim schema name; rows = rs; texts = dict.lists ++ (value ∷ []) ∷ [] } in s)
      (ap (map (decoded_row (dict.lists ++ (value ∷ []) ∷ []))) rows
      ∙ rows-longer dict.lists (rows_of table) value is.known long)

-- the two tests, by what they say
refused-by : (a b : Bool) (refused : WidenRefused) (x : Applied)
    → Some refused ≡ cond a (Some refusals.DimsFull) (cond b (Some refusals.NodesFull) None)
    → IfSome (widen_refusal_in refused) (λ refusal. cond a (Err wide.DimsFull) (cond b (Err wide.NodesFull) (Ok x))
    ≡ Err refusal)
refused-by true b refused x e
    = subst (λ r. IfSome (widen_refusal_in r)
    (λ refusal. ◌≡◌ {A = Result Applied WidenRefusal} (Err wide.DimsFull) (Err refusal))) (sym (some_same e)) refl
refused-by false true refused x e
    = subst (λ r. IfSome (widen_refusal_in r)
    (λ refusal. ◌≡◌ {A = Result Applied WidenRefusal} (Err wide.NodesFull) (Err refusal))) (sym (some_same e)) refl
refused-by false false refused x e = absurd (cc e)

taken-by : (a b : Bool) (x : Applied) → None ≡ cond a (Some refusals.DimsFull) (cond b (Some refusals.NodesFull) None)
    → cond a (Err wide.DimsFull) (cond b (Err wide.NodesFull) (Ok x)) ≡ Ok x
taken-by false false x e = refl
taken-by _ b x e = absurd (cc e)

-- no refusal shows that there is room
pub room-free : (a : Bool) (most count : ℕ)
    → None ≡ cond a (Some refusals.DimsFull) (cond (nat_lt most count) (Some refusals.NodesFull) None) → count ≤ most
room-free true most count e = absurd (cc e)
room-free false most count e = by_test (nat_lt most count) refl e
  where
    by_test : (b : Bool) → nat_lt most count ≡ b → None ≡ cond b (Some refusals.NodesFull) None → count ≤ most
    by_test true s f = absurd (cc f)
    by_test false s f = grind (arith, s)

pub dims-free : (most dims : ℕ) (rest : Option WidenRefused)
    → None ≡ cond (nat_le most dims) (Some refusals.DimsFull) rest → dims < most
dims-free most dims rest e = by_test (nat_le most dims) refl e
  where
    by_test : (b : Bool) → nat_le most dims ≡ b → None ≡ cond b (Some refusals.DimsFull) rest → dims < most
    by_test true s f = absurd (cc f)
    by_test false s f = grind (arith, s)

abbrev pub full_by : State → ℕ → Option WidenRefused
full_by s count = cond (nat_le (max_dims s.schema.version) (length s.schema.dims)) (Some refusals.DimsFull)
    (cond (nat_lt s.schema.nodes count) (Some refusals.NodesFull) None)

-- what is refused, and what is not
pub refused-full : (s : State) (name value : Text) (count : ℕ) → count ≡ nodes_then s → (refused : WidenRefused)
    → Some refused ≡ full_by s count
    → IfSome (widen_refusal_in refused) (λ refusal. widen_result s name value ≡ Err refusal)
refused-full s name value count same refused e
    = refused-by (nat_le (max_dims s.schema.version) (length s.schema.dims)) (nat_lt s.schema.nodes (nodes_then s))
    refused _ (e ∙ ap (full_by s) same)

pub taken-free : (s : State) (name value : Text) (count : ℕ) → count ≡ nodes_then s → None ≡ full_by s count
    → widen_result s name value
    ≡ Ok (record {
      records = 0;
      classes = length (classes text_cmp (widened name value s).rows);
      state
          = widened name value s;
    })
taken-free s name value count same e
    = taken-by (nat_le (max_dims s.schema.version) (length s.schema.dims)) (nat_lt s.schema.nodes (nodes_then s)) _ (e
    ∙ ap (full_by s) same)

-- the tree that is kept is that of the rows with the dimension
pub kept-wide : (schema : Layout) (table : Places) (tree : Arena) (dims : ℕ) → length schema.dims ≡ dims
    → is_open tree ≡ false → tree.width ≡ dims → tree.max ≡ schema.nodes → finmap.len tree.now ≤ tree.max
    → IsTreeOf dims tree.now (record { measures = length schema.measures; rows = rows_of table })
    → IsTreeOfTable schema table tree
kept-wide schema table tree dims long closed width max few from = record {
  closed = closed;
  width = width ∙ sym long;
  max = max;
  few = let count = nodes_counted nat_cmp_total finmap.nat_cmp-IsAntisymmetric dims (length schema.measures)
      (rows_of table) from.wide tree.now from.canonical in omega (arith, few, max, count);
  from = subst (λ n. IsTreeOf n tree.now (record { measures = length schema.measures; rows = rows_of table }))
      (sym long) from;
}

-- what listing the classes, handing them on and filling the index costs is within what a dimension may cost
pub cost-wide : (dims : ℕ) (tree : Tree ℕ) (count from listed to : ℕ) → count ≤ finmap.len tree
    → listed ≤ from + finmap.len tree → to ≤ listed + 2 * count → to ≤ from + steps_of_widening dims (size_of tree)
cost-wide dims tree count from listed to few first rest =
    let within = mul-le 16 (finmap.len tree + edges_in tree + 1) (16 * (dims + 1))
    (finmap.len tree + edges_in tree + 1) (omega arith) (omega arith) in
    omega (arith, few, first, rest, within)
