-- A row that goes: the rows before it and after it, and what its tree keeps and costs.
use Rattle.std.proofs.Common.{◌≡◌, ◌∙◌, ◌≤◌, ◌+◌, ◌*◌, ◌^◌, ℕ, List, [], ◌∷◌, ◌++◌, Bool, true, false, Option, Some, None, arith, length}
use Rattle.std.proofs.Common.{refl, sym, ap, ap₂, subst, suc, true≢false, if◌then◌else◌}
use Rattle.std.specs.Prelude.{◌||◌, ◌&&◌, ◌==◌, IfSome, nat_eq, option_map, Err, Ok, OnOk, Result}
use Rattle.std.specs.List.{All, AllByRecursion, IsDistinct}
use Rattle.std.specs.FinMap as finmap
use Rattle.std.specs.Ordering.{nat_cmp, eq_by_cmp}
use Rattle.std.specs.Cmp.{nat_cmp_total}
use Rattle.std.specs.FinMap.{nat_cmp-IsAntisymmetric}
use Rattle.std.proofs.lemmas.List.Elements.{All-cons, All-head, All-nil, All-tail}
use Rattle.std.proofs.lemmas.Map.Keys.{IsDistinct-head, IsDistinct-tail}
use Rattle.base_table.specs.Places.{IsTable, Places, has_id, row_with_id, rows_of, total_of, with_tuple, without_id}
use Rattle.base_table.proofs.CallerLemmas.{total_some}
use Rattle.batch_delete.specs.Gone.{source_after}
use Rattle.batch_delete.specs.Rests.{Deletion, rows_after, rows_before, source_before}
use Rattle.cube_defs.specs.Cell.{Cell, cell_eq, cell_of, leq}
use Rattle.cube_defs.specs.Rows as defs
use Rattle.cube_defs.specs.Rows.{Row, cov, is_node}
use Rattle.cube_defs.specs.Tree.{IsCanonical, Node, Tree, affected_size, cell_at, nodes}
use Rattle.cube_laws.specs.Total.{agg_at}
use Rattle.cube_laws.proofs.CallerLemmas.{eq_cmp, nat_eq-turned}
use Rattle.tree_search.specs.Found.{IsTreeOf}
use Rattle.tree_laws.proofs.CallerLemmas.{nodes_no_fewer}
use Rattle.warehouse.specs.Batch.{is_among}
use Rattle.warehouse.specs.InPlace.{IsDeletion, KeepsOtherRecords, KeepsNodes, cost_of_deletions, cost_of_row, cost_without, gone, kept}
use Rattle.warehouse.specs.State.{ids_of}
use Rattle.warehouse.proofs.Rows.{kept-none, among-more}
use Rattle.warehouse.proofs.Trees.{rows-wide}
use Rattle.warehouse.proofs.TreeInsertions.{plus-more}

-- the rows before the first with an id, and those after it
abbrev before_id : List (Row ℕ) → ℕ → List (Row ℕ)
before_id [] id = []
before_id (row ∷ rows) id = if row.id == id then [] else row ∷ before_id rows id

abbrev after_id : List (Row ℕ) → ℕ → List (Row ℕ)
after_id [] id = []
after_id (row ∷ rows) id = if row.id == id then rows else after_id rows id

-- a row, or one of no values
abbrev pub row_or : Option (Row ℕ) → Row ℕ
row_or None = record { id = 0; tuple = []; amounts = [] }
row_or (Some row) = row

abbrev pub deletion_of : Places → ℕ → Deletion
deletion_of t id = record {
  measures = t.measures;
  xs = before_id (rows_of t) id;
  r
      = row_or (row_with_id (rows_of t) id);
  ys = after_id (rows_of t) id;
}

split-at : (rows : List (Row ℕ)) (id : ℕ) → has_id rows id ≡ true
    → rows ≡ before_id rows id ++ row_or (row_with_id rows id) ∷ after_id rows id
split-at [] id there = absurd (true≢false (sym there))
split-at (row ∷ rows) id there = go (nat_eq row.id id) refl (split-at rows id)
  where
    go : (b : Bool) → nat_eq row.id id ≡ b
        → (has_id rows id ≡ true → rows ≡ before_id rows id ++ row_or (row_with_id rows id) ∷ after_id rows id)
        → row ∷ rows ≡ before_id (row ∷ rows) id ++ row_or (row_with_id (row ∷ rows) id) ∷ after_id (row ∷ rows) id
    go true e rest = rw e refl
    go false e rest =
        let later : has_id rows id ≡ true = rw e at there in
        rw e (ap (λ (rs : List (Row ℕ)). row ∷ rs) (rest later))

id-at : (rows : List (Row ℕ)) (id : ℕ) → has_id rows id ≡ true → (row_or (row_with_id rows id)).id ≡ id
id-at [] id there = absurd (true≢false (sym there))
id-at (row ∷ rows) id there = go (nat_eq row.id id) refl (id-at rows id)
  where
    go : (b : Bool) → nat_eq row.id id ≡ b → (has_id rows id ≡ true → (row_or (row_with_id rows id)).id ≡ id)
        → (row_or (row_with_id (row ∷ rows) id)).id ≡ id
    go true e rest = let same : row.id ≡ id = grind (arith, e) in rw e same
    go false e rest =
        let later : has_id rows id ≡ true = rw e at there in
        rw e (rest later)

pub found-at : (rows : List (Row ℕ)) (id : ℕ) → has_id rows id ≡ true
    → row_with_id rows id ≡ Some (row_or (row_with_id rows id))
found-at [] id there = absurd (true≢false (sym there))
found-at (row ∷ rows) id there = go (nat_eq row.id id) refl (found-at rows id)
  where
    go : (b : Bool) → nat_eq row.id id ≡ b
        → (has_id rows id ≡ true → row_with_id rows id ≡ Some (row_or (row_with_id rows id)))
        → row_with_id (row ∷ rows) id ≡ Some (row_or (row_with_id (row ∷ rows) id))
    go true e rest = rw e refl
    go false e rest =
        let later : has_id rows id ≡ true = rw e at there in
        rw e (rest later)

pub deletion-is : (t : Places) (id : ℕ) → has_id (rows_of t) id ≡ true → IsDeletion t id (deletion_of t id)
deletion-is t id there =
    record { rows = split-at (rows_of t) id there; named = id-at (rows_of t) id there; measures = refl }

-- where all ids differ, the row is the one with its id
at-id : (P : ℕ → Type 0) (xs : List (Row ℕ)) (r : Row ℕ) (ys : List (Row ℕ))
    → AllByRecursion P (ids_of (xs ++ r ∷ ys)) → P r.id
at-id P [] r ys all = all.0
at-id P (x ∷ xs) r ys all = at-id P xs r ys all.1

without-absent : (rows : List (Row ℕ)) (id : ℕ) → AllByRecursion (λ (other : ℕ). nat_eq id other ≡ false) (ids_of rows)
    → without_id rows id ≡ rows
without-absent [] id all = refl
without-absent (row ∷ rows) id all
    = rw (nat_eq-turned row.id id, all.0) (ap (λ (rs : List (Row ℕ)). row ∷ rs) (without-absent rows id all.1))

itself : (n : ℕ) → nat_eq n n ≡ true
itself n = grind arith

without-row : (xs : List (Row ℕ)) (r : Row ℕ) (ys : List (Row ℕ)) → IsDistinct nat_eq (ids_of (xs ++ r ∷ ys))
    → without_id (xs ++ r ∷ ys) r.id ≡ xs ++ ys
without-row [] r ys h = rw (itself r.id) (without-absent ys r.id (IsDistinct-head nat_eq r.id (ids_of ys) h))
without-row (x ∷ xs) r ys h =
    let differs : nat_eq x.id r.id ≡ false
    = at-id (λ (other : ℕ). nat_eq x.id other ≡ false) xs r ys
    (IsDistinct-head nat_eq x.id (ids_of (xs ++ r ∷ ys)) h) in
    rw differs (ap (λ (rs : List (Row ℕ)). x ∷ rs)
    (without-row xs r ys (IsDistinct-tail nat_eq x.id (ids_of (xs ++ r ∷ ys)) h)))

with-row : (xs : List (Row ℕ)) (r : Row ℕ) (ys : List (Row ℕ)) → IsDistinct nat_eq (ids_of (xs ++ r ∷ ys))
    → row_with_id (xs ++ r ∷ ys) r.id ≡ Some r
with-row [] r ys h = rw (itself r.id) refl
with-row (x ∷ xs) r ys h =
    let differs : nat_eq x.id r.id ≡ false
    = at-id (λ (other : ℕ). nat_eq x.id other ≡ false) xs r ys
    (IsDistinct-head nat_eq x.id (ids_of (xs ++ r ∷ ys)) h) in
    rw differs (with-row xs r ys (IsDistinct-tail nat_eq x.id (ids_of (xs ++ r ∷ ys)) h))

module _ (t : Places) (id : ℕ) (d : Deletion) (is : IsTable t) (row : IsDeletion t id d) where
  distinct : IsDistinct nat_eq (ids_of (rows_before d))
  distinct = subst (λ (rs : List (Row ℕ)). IsDistinct nat_eq (ids_of rs)) row.rows is.rows.distinct

  pub left-is : without_id (rows_of t) id ≡ rows_after d
  left-is = ap₂ without_id row.rows (sym row.named) ∙ without-row d.xs d.r d.ys distinct

  pub row-is : row_with_id (rows_of t) id ≡ Some d.r
  row-is = ap₂ row_with_id row.rows (sym row.named) ∙ with-row d.xs d.r d.ys distinct

  pub fewer-nodes : (left : List (Row ℕ)) → left ≡ without_id (rows_of t) id
      → length (nodes nat_cmp left) ≤ length (nodes nat_cmp (rows_of t))
  fewer-nodes left same =
      let fewer = nodes_no_fewer nat_cmp_total nat_cmp-IsAntisymmetric d.xs d.r d.ys in
      let one : length (nodes nat_cmp left) ≤ length (nodes nat_cmp (rows_before d))
      = subst (λ (rs : List (Row ℕ)). length (nodes nat_cmp rs) ≤ length (nodes nat_cmp (rows_before d)))
      (sym (same ∙ left-is)) fewer in
      subst (λ (rs : List (Row ℕ)). length (nodes nat_cmp left) ≤ length (nodes nat_cmp rs)) (sym row.rows) one

-- a tuple covers just the rows that have it
same-tuple : (vs ws : List ℕ) → length vs ≡ length ws
    → cell_eq nat_eq (cell_of ws) (cell_of vs) ≡ leq (eq_by_cmp nat_cmp) (cell_of vs) (cell_of ws)
same-tuple [] [] same = refl
same-tuple (v ∷ vs) (w ∷ ws) same
    = ap₂ (λ (a b : Bool). a && b) (nat_eq-turned w v ∙ sym (eq_cmp v w)) (same-tuple vs ws (omega (arith, same)))
same-tuple _ _ same = absurd (omega (arith, same))

same-rows : (vs : List ℕ) (rows : List (Row ℕ)) → AllByRecursion (λ (row : Row ℕ). length row.tuple ≡ length vs) rows
    → with_tuple rows (cell_of vs) ≡ cov (eq_by_cmp nat_cmp) rows (cell_of vs)
same-rows vs [] wide = refl
same-rows vs (row ∷ rows) wide =
    let test : cell_eq nat_eq (cell_of row.tuple) (cell_of vs) ≡ leq (eq_by_cmp nat_cmp) (cell_of vs)
    (cell_of row.tuple) = same-tuple vs row.tuple (sym wide.0) in
    ap₂ (λ (b : Bool) (rs : List (Row ℕ)). if b then row ∷ rs else rs) test (same-rows vs rows wide.1)

pub rest-is : (measures : ℕ) (u : Cell ℕ) (vs : List ℕ) (rows : List (Row ℕ)) → u ≡ cell_of vs
    → AllByRecursion (λ (row : Row ℕ). length row.tuple ≡ length vs) rows
    → total_of measures (with_tuple rows u) ≡ agg_at (eq_by_cmp nat_cmp) measures rows u
rest-is measures u vs rows same wide =
    subst (λ (c : Cell ℕ). total_of measures (with_tuple rows c) ≡ agg_at (eq_by_cmp nat_cmp) measures rows c)
    (sym same)
    (ap (total_of measures) (same-rows vs rows wide) ∙ total_some measures (cov (eq_by_cmp nat_cmp) rows (cell_of vs)))

-- what `delete_row` asks of the table, and what the table's tree is after it
all-without : (P : Row ℕ → Type 0) (xs : List (Row ℕ)) (r : Row ℕ) (ys : List (Row ℕ)) → AllByRecursion P (xs ++ r ∷ ys)
    → AllByRecursion P (xs ++ ys)
all-without P [] r ys all = all.1
all-without P (x ∷ xs) r ys all = (all.0, all-without P xs r ys all.1)

all-here : (P : Row ℕ → Type 0) (xs : List (Row ℕ)) (r : Row ℕ) (ys : List (Row ℕ))
    → AllByRecursion P (xs ++ r ∷ ys) → P r
all-here P [] r ys all = all.0
all-here P (x ∷ xs) r ys all = all-here P xs r ys all.1

long-cell : (vs : List ℕ) → length (cell_of vs) ≡ length vs
long-cell [] = refl
long-cell (v ∷ vs) = ap suc (long-cell vs)

module _ (t : Places) (id : ℕ) (d : Deletion) (is : IsTable t) (row : IsDeletion t id d) where
  abbrev Wide : Row ℕ → Type 0
  Wide r = length r.tuple ≡ t.dims

  wide : AllByRecursion Wide (rows_before d)
  wide = subst (λ (rs : List (Row ℕ)). AllByRecursion Wide rs) row.rows (rows-wide t is)

  wide-row : length d.r.tuple ≡ t.dims
  wide-row = all-here Wide d.xs d.r d.ys wide

  pub tuple-is : (u : Cell ℕ) (amounts : Row ℕ → Type 0)
      → IfSome (row_with_id (rows_of t) id) (λ r. (u ≡ cell_of r.tuple) × amounts r) → u ≡ cell_of d.r.tuple
  tuple-is u amounts taken =
      let here : (u ≡ cell_of d.r.tuple) × amounts d.r
      = subst (λ (o : Option (Row ℕ)). IfSome o (λ r. (u ≡ cell_of r.tuple) × amounts r))
      (row-is t id d is row) taken in
      here.0

  pub tuple-long : (u : Cell ℕ) → u ≡ cell_of d.r.tuple → length u ≡ t.dims
  tuple-long u same = ap (λ (c : Cell ℕ). length c) same ∙ long-cell d.r.tuple ∙ wide-row

  pub from-is : (width : ℕ) (b : Tree ℕ) → width ≡ t.dims → IsCanonical nat_cmp t.measures (rows_of t) b
      → IsTreeOf width b (source_before d)
  from-is width b same canonical = record {
    wide = subst (λ (n : ℕ). AllByRecursion (λ (r : Row ℕ). length r.tuple ≡ n) (rows_before d)) (sym same) wide;
    canonical =
        subst (λ (m : ℕ). IsCanonical nat_cmp m (rows_before d) b) (sym row.measures)
        (subst (λ (rs : List (Row ℕ)). IsCanonical nat_cmp t.measures rs b) row.rows canonical);
  }

  pub few-before : length (rows_before d) ≤ 1000000
  few-before =
      let most : t.max ≤ 1000000 = is.few_rows in
      let few : length (rows_of t) ≤ t.max = is.rows.few in
      subst (λ (rs : List (Row ℕ)). length rs ≤ 1000000) row.rows (omega (arith, most, few))

  -- the table after the row has gone
  module _ (t' : Places) (rows : rows_of t' ≡ without_id (rows_of t) id) (u : Cell ℕ)
      (same : u ≡ cell_of d.r.tuple) where
    after-is : rows_of t' ≡ rows_after d
    after-is = rows ∙ left-is t id d is row

    pub rest-of : (o : Option defs.Agg) → t'.measures ≡ t.measures
        → o ≡ total_of t'.measures (with_tuple (rows_of t') u)
        → o ≡ agg_at (eq_by_cmp nat_cmp) d.measures (rows_after d) u
    rest-of o measures group =
        group
        ∙ ap₂ (λ (m : ℕ) (rs : List (Row ℕ)). total_of m (with_tuple rs u)) (measures ∙ sym row.measures) after-is
        ∙ rest-is d.measures u d.r.tuple (rows_after d) same
        (subst (λ (n : ℕ). AllByRecursion (λ (r : Row ℕ). length r.tuple ≡ n) (rows_after d)) (sym wide-row)
        (all-without Wide d.xs d.r d.ys wide))

    pub canonical-after : (width : ℕ) (b : Tree ℕ) → IsTreeOf width b (source_after d)
        → IsCanonical nat_cmp t.measures (rows_of t') b
    canonical-after width b from =
        subst (λ (m : ℕ). IsCanonical nat_cmp m (rows_of t') b) row.measures
        (subst (λ (rs : List (Row ℕ)). IsCanonical nat_cmp d.measures rs b) (sym after-is) from.canonical)

    pub numbers-after : (b e : Tree ℕ) → KeepsNodes (rows_after d) b e → KeepsNodes (rows_of t') b e
    numbers-after b e keeps = subst (λ (rs : List (Row ℕ)). KeepsNodes rs b e) (sym after-is) keeps

    pub apart-after : (b e : Tree ℕ) → ((k : ℕ) (n : Node ℕ ℕ) → finmap.get b k ≡ Some n → leq nat_eq n.cell u ≡ false
        → finmap.get e k ≡ Some n) → KeepsOtherRecords (d.r ∷ []) b e
    apart-after b e each k n h all =
        let Apart : Row ℕ → Type 0 = λ r. leq nat_eq n.cell (cell_of r.tuple) ≡ false in
        each k n h (subst (λ (c : Cell ℕ). leq nat_eq n.cell c ≡ false) (sym same) (All-head Apart d.r [] all))

    pub steps-after : (begun now : ℕ)
        → now ≤ begun + 256 * (length u + 1) ^ 2 * (affected_size nat_cmp (rows_before d) (rows_after d) d.r.tuple + 1)
        → now ≤ begun + cost_without t.dims (rows_of t) (row_with_id (rows_of t) id)
    steps-after begun now le =
        let dims : now ≤ begun + cost_of_row t.dims (rows_before d) (rows_after d) d.r =
        subst (λ (n : ℕ). now ≤ begun
        + 256 * (n + 1) ^ 2 * (affected_size nat_cmp (rows_before d) (rows_after d) d.r.tuple + 1))
        (tuple-long u same) le in
        let before : now ≤ begun + cost_of_row t.dims (rows_of t) (rows_after d) d.r =
        subst (λ (rs : List (Row ℕ)). now ≤ begun + cost_of_row t.dims rs (rows_after d) d.r) (sym row.rows) dims in
        let after : now ≤ begun + cost_of_row t.dims (rows_of t) (without_id (rows_of t) d.r.id) d.r =
        subst (λ (rs : List (Row ℕ)). now ≤ begun + cost_of_row t.dims (rows_of t) rs d.r) (sym (left-is t id d is row)
        ∙ ap (without_id (rows_of t)) (sym row.named)) before in
        subst (λ (o : Option (Row ℕ)). now ≤ begun + cost_without t.dims (rows_of t) o)
        (sym (row-is t id d is row)) after

-- nodes that are left after two steps
node-there : (measures : ℕ) (rows : List (Row ℕ)) (b : Tree ℕ) → IsCanonical nat_cmp measures rows b
    → (k : ℕ) (c : Cell ℕ) → cell_at b k ≡ Some c → is_node (eq_by_cmp nat_cmp) rows c ≡ true
node-there measures rows b canonical k c = go (finmap.get b k) refl
  where
    go : (o : Option (Node ℕ ℕ)) → finmap.get b k ≡ o → option_map (λ (n : Node ℕ ℕ). n.cell) o ≡ Some c
        → is_node (eq_by_cmp nat_cmp) rows c ≡ true
    go None is h = let bad : None ≡ Some c = h in cc
    go (Some n) is h =
        let same : n.cell ≡ c = some h in
        subst (λ (x : Cell ℕ). is_node (eq_by_cmp nat_cmp) rows x ≡ true) same (canonical.each k n is).0
      where
        some : Some n.cell ≡ Some c → n.cell ≡ c
        some e = cc

pub nodes-more : (measures : ℕ) (rows left : List (Row ℕ)) (b d e : Tree ℕ) → IsCanonical nat_cmp measures rows d
    → IsCanonical nat_cmp measures left e
    → ((k : ℕ) (c : Cell ℕ) → cell_at e k ≡ Some c → cell_at d k ≡ Some c) → KeepsNodes rows b d → KeepsNodes left d e
    → KeepsNodes left b e
nodes-more measures rows left b d e before after old one two k c h node =
    let now = after.all c node in
    two k c (one k c h (node-there measures rows d before now.0 c (old now.0 c now.1))) node

module _ (P : Row ℕ → Type 0) (ids : List ℕ) (id : ℕ) where
  pub all-gone : (rows : List (Row ℕ)) → All P (gone (ids ++ id ∷ []) rows) → All P (gone ids rows)
  all-gone [] all = All-nil P
  all-gone (row ∷ rows) all = go (is_among row.id ids) refl (nat_eq id row.id) refl (all-gone rows)
    where
      go : (b : Bool) → is_among row.id ids ≡ b → (e : Bool) → nat_eq id row.id ≡ e
          → (All P (gone (ids ++ id ∷ []) rows) → All P (gone ids rows)) → All P (gone ids (row ∷ rows))
      go true is e same rest =
          let more : is_among row.id (ids ++ id ∷ []) ≡ true = among-more row.id ids id
          ∙ ap (λ (b : Bool). b || nat_eq id row.id) is in
          let here : All P (row ∷ gone (ids ++ id ∷ []) rows) = rw more at all in
          rw is (All-cons P row (gone ids rows) (All-head P row (gone (ids ++ id ∷ []) rows) here)
          (rest (All-tail P row (gone (ids ++ id ∷ []) rows) here)))
      go false is true same rest =
          let more : is_among row.id (ids ++ id ∷ []) ≡ true = among-more row.id ids id
          ∙ ap₂ (λ (a b : Bool). a || b) is same in
          let here : All P (row ∷ gone (ids ++ id ∷ []) rows) = rw more at all in
          rw is (rest (All-tail P row (gone (ids ++ id ∷ []) rows) here))
      go false is false same rest =
          let more : is_among row.id (ids ++ id ∷ []) ≡ false = among-more row.id ids id
          ∙ ap₂ (λ (a b : Bool). a || b) is same in
          let here : All P (gone (ids ++ id ∷ []) rows) = rw more at all in
          rw is (rest here)

  pub here-gone : (rows : List (Row ℕ)) (r : Row ℕ) → row_with_id rows id ≡ Some r
      → All P (gone (ids ++ id ∷ []) rows) → P r
  here-gone [] r found all = let bad : None ≡ Some r = found in cc
  here-gone (row ∷ rows) r found all
      = go (nat_eq row.id id) refl (is_among row.id (ids ++ id ∷ [])) refl (here-gone rows r)
    where
      last : nat_eq row.id id ≡ true → is_among row.id (ids ++ id ∷ []) ≡ true
      last same = among-more row.id ids id
          ∙ ap (λ (b : Bool). is_among row.id ids || b) (nat_eq-turned id row.id ∙ same) ∙ or-true (is_among row.id ids)
        where
          or-true : (b : Bool) → (b || true) ≡ true
          or-true true = refl
          or-true false = refl

      some : (x y : Row ℕ) → Some x ≡ Some y → x ≡ y
      some x y e = cc

      go : (b : Bool) → nat_eq row.id id ≡ b → (e : Bool) → is_among row.id (ids ++ id ∷ []) ≡ e
          → (row_with_id rows id ≡ Some r → All P (gone (ids ++ id ∷ []) rows) → P r) → P r
      go true same e is rest =
          let this : Some row ≡ Some r = rw same at found in
          let here : All P (row ∷ gone (ids ++ id ∷ []) rows) = rw (last same) at all in
          subst P (some row r this) (All-head P row (gone (ids ++ id ∷ []) rows) here)
      go false same true is rest =
          let later : row_with_id rows id ≡ Some r = rw same at found in
          let here : All P (row ∷ gone (ids ++ id ∷ []) rows) = rw is at all in
          rest later (All-tail P row (gone (ids ++ id ∷ []) rows) here)
      go false same false is rest =
          let later : row_with_id rows id ≡ Some r = rw same at found in
          let here : All P (gone (ids ++ id ∷ []) rows) = rw is at all in
          rest later here

-- a row whose id isn't among those that went is where it was
pub kept-row : (ids : List ℕ) (id : ℕ) (rows : List (Row ℕ)) → is_among id ids ≡ false
    → row_with_id (kept ids rows) id ≡ row_with_id rows id
kept-row ids id [] new = refl
kept-row ids id (row ∷ rows) new = go (is_among row.id ids) refl (nat_eq row.id id) refl (kept-row ids id rows new)
  where
    go : (b : Bool) → is_among row.id ids ≡ b → (e : Bool) → nat_eq row.id id ≡ e
        → row_with_id (kept ids rows) id ≡ row_with_id rows id
        → row_with_id (kept ids (row ∷ rows)) id ≡ row_with_id (row ∷ rows) id
    go true is true same rest =
        let number : row.id ≡ id = grind (arith, same) in
        absurd (true≢false (sym is ∙ ap (λ (n : ℕ). is_among n ids) number ∙ new))
    go true is false same rest = rw (is, same) rest
    go false is true same rest = rw (is, same) refl
    go false is false same rest = rw (is, same) rest

pub apart-gone : (ids : List ℕ) (id : ℕ) (rows : List (Row ℕ)) (r : Row ℕ) (b d e : Tree ℕ) → is_among id ids ≡ false
    → row_with_id (kept ids rows) id ≡ Some r
    → KeepsOtherRecords (gone ids rows) b d → KeepsOtherRecords (r ∷ []) d e
    → KeepsOtherRecords (gone (ids ++ id ∷ []) rows) b e
apart-gone ids id rows r b d e new found one two k n h all =
    let Apart : Row ℕ → Type 0 = λ row. leq nat_eq n.cell (cell_of row.tuple) ≡ false in
    two k n (one k n h (all-gone Apart ids id rows all))
    (All-cons Apart r [] (here-gone Apart ids id rows r (sym (kept-row ids id rows new) ∙ found) all)
    (All-nil Apart))

-- costs of rows that go one after another
kept-first : (x : ℕ) (ids : List ℕ) (rows : List (Row ℕ)) → kept ids (without_id rows x) ≡ kept (x ∷ ids) rows
kept-first x ids [] = refl
kept-first x ids (row ∷ rows) = go (nat_eq row.id x) refl (is_among row.id ids) refl (kept-first x ids rows)
  where
    go : (b : Bool) → nat_eq row.id x ≡ b → (e : Bool) → is_among row.id ids ≡ e
        → kept ids (without_id rows x) ≡ kept (x ∷ ids) rows
        → kept ids (without_id (row ∷ rows) x) ≡ kept (x ∷ ids) (row ∷ rows)
    go true same e is rest = rw (nat_eq-turned x row.id, same) rest
    go false same true is rest = rw (nat_eq-turned x row.id, same, is) rest
    go false same false is rest = rw (nat_eq-turned x row.id, same, is) (ap (λ (rs : List (Row ℕ)). row ∷ rs) rest)

plus-zero : (n : ℕ) → n + 0 ≡ 0 + n
plus-zero n = omega arith

cost-going : (dims : ℕ) (ids : List ℕ) (rows : List (Row ℕ)) (id : ℕ)
    → cost_of_deletions dims rows (ids ++ id ∷ []) ≡ cost_of_deletions dims rows ids + cost_without dims (kept ids rows)
    (row_with_id (kept ids rows) id)
cost-going dims [] rows id =
    plus-zero (cost_without dims rows (row_with_id rows id))
    ∙ ap (λ (rs : List (Row ℕ)). 0 + cost_without dims rs (row_with_id rs id)) (sym (kept-none rows))
cost-going dims (x ∷ ids) rows id =
    plus-more (cost_without dims rows (row_with_id rows x))
    (cost_of_deletions dims (without_id rows x) (ids ++ id ∷ [])) (cost_of_deletions dims (without_id rows x) ids)
    (cost_without dims (kept (x ∷ ids) rows) (row_with_id (kept (x ∷ ids) rows) id))
    (cost-going dims ids (without_id rows x) id
    ∙ ap (λ (rs : List (Row ℕ)). cost_of_deletions dims (without_id rows x) ids + cost_without dims rs
    (row_with_id rs id)) (kept-first x ids rows))

pub steps-going : (dims : ℕ) (ids : List ℕ) (rows : List (Row ℕ)) (id begun here now : ℕ)
    → here ≤ begun + cost_of_deletions dims rows ids
    → now ≤ here + cost_without dims (kept ids rows) (row_with_id (kept ids rows) id)
    → now ≤ begun + cost_of_deletions dims rows (ids ++ id ∷ [])
steps-going dims ids rows id begun here now one two = omega (arith, cost-going dims ids rows id, one, two)

-- what follows from a clause on what is answered
pub ok-then : {T E : Type 0} {P Q : Type 0} (result : Result T E) → (P → Q) → OnOk result P → OnOk result Q
ok-then (Ok x) f h = f h
ok-then (Err e) f h = tt
