-- The answer in texts, from what a walk meets in codes.
use Rattle.std.proofs.Common.{◌≡◌, ◌≢◌, ℕ, zero, suc, ◌+◌, ◌*◌, ◌<◌, ◌≤◌, Bool, true, Option, Some, None, List, [], ◌∷◌, ◌++◌, length, map}
use Rattle.std.proofs.Common.{filter, replicate, drop, refl, sym, ap, ap₂, subst, ◌∙◌, arith}
use Rattle.std.specs.Prelude.{IsSome, is_some}
use Rattle.std.specs.Cmp.{nat_cmp_total}
use Rattle.std.specs.FinMap.{nat_cmp-IsAntisymmetric}
use Rattle.std.specs.List.{All, AllByRecursion, IsDistinct}
use Rattle.std.specs.Ordering.{nat_cmp, eq_by_cmp}
use Rattle.std.specs.Str.{bytes_eq}
use Rattle.std.specs.Option.{option_map}
use Rattle.std.proofs.lemmas.List.Elements.{All-cons}
use Rattle.std.proofs.lemmas.List.FromFn.{length-map-range_with_len}
use Rattle.std.proofs.lemmas.List.{length-map}
use Rattle.cube_defs.specs.Text.{Text, text_cmp}
use Rattle.cube_defs.specs.Cell.{Cell, depth, cell_prefix, depth_with}
use Rattle.cube_defs.specs.Rows.{Row, Agg, agg, amounts_of, closure, cov, is_node, part_of}
use Rattle.cube_defs.specs.Tree.{Tree, cell_at, covered}
use Rattle.cube_defs.specs.Answers as answers
use Rattle.cube_laws.specs.Recoding.{AreKnown, BoxIsKnown, RowsAreKnown, TellsApart, coded_cell, coded_box}
use Rattle.cube_laws.proofs.CallerLemmas.{cell_prefix_zero, closure_length, is_node-is, agg-coded, code_equality}
use Rattle.tree_search.specs.Found.{IsTreeOf, TreeRows}
use Rattle.tree_search.proofs.CallerLemmas.{cell_of, there_is}
use Rattle.qc_arena.specs.RecordReaders.{record_at}
use Rattle.tree_laws.specs.Walk.{closure_prefix}
use Rattle.tree_laws.proofs.CallerLemmas.{cell_prefix-beyond, wide-coded, no_root, there}
use Rattle.value_dict.specs.Boxes.{IsOrdered, decoded_box}
use Rattle.value_dict.specs.Recoded.{has_code, text_in, decoded_row_list}
use Rattle.value_dict.specs.Decoded.{decoded_cell}
use Rattle.value_dict.proofs.CallerLemmas.{texts-apart, texts-known, told-known, text_anti, text_total, text_equality}
use Rattle.range_query.specs.declared.hit.Hit.{Hit}
use Rattle.range_query.specs.Met as walks
use Rattle.range_query.specs.Met.{is_covered}
use Rattle.range_query.specs.Work.{work}
use Rattle.range_query.specs.DecodedHits.{IsDecodableHit, hit_at, hit_in, decoded_hit, decoded_hits}
use Rattle.range_query.specs.Walk.{StandsAtNode, cost, met}
use Rattle.range_query.proofs.Costs.{cells_within, work_is}
use Rattle.range_query.proofs.Standing.{stands_covered}
use Rattle.range_query.proofs.MetCells.{met_covered, met_is, met_long, none_is}
use Rattle.range_query.proofs.Recoded.{cost-coded, is_covered-coded, known-covered, met-coded}

module _ {A B : Type 0} (codes : ℕ → A → B) where
  coded-root : (k n : ℕ) → coded_cell codes k (replicate n None) ≡ replicate n None
  coded-root k zero = refl
  coded-root k (suc n) = ap (λ c. None ∷ c) (coded-root (suc k) n)

  length-coded_box : (k : ℕ) (box : answers.Box A) → length (coded_box codes k box) ≡ length box
  length-coded_box k [] = refl
  length-coded_box k (a ∷ box) = ap suc (length-coded_box (suc k) box)

known-root : {A : Type 0} (known : ℕ → A → Bool) (k n : ℕ) → AreKnown known k (replicate n None)
known-root known k zero = tt
known-root known k (suc n) = known-root known (suc k) n

root_long : (n : ℕ) → length (replicate n (let e : Option ℕ = None in e)) ≡ n
root_long zero = refl
root_long (suc n) = ap suc (root_long n)

root_deep : (n : ℕ) → depth (replicate n (let e : Option ℕ = None in e)) ≤ 0
root_deep zero = omega arith
root_deep (suc n) = deep (depth (replicate n (let e : Option ℕ = None in e))) (root_deep n)
  where
    deep : (m : ℕ) → m ≤ 0 → depth_with {A = ℕ} None m ≤ 0
    deep zero h = omega arith
    deep (suc m) h = absurd (omega arith)

module _ (dims : ℕ) (tree : Tree ℕ) where
  -- the walk begins at the root
  pub stands_root : (root : ℕ) (p : Cell ℕ) → p ≡ replicate dims None → cell_at tree root ≡ Some (replicate dims None)
      → StandsAtNode dims tree root p 0
  stands_root root p e at = subst (λ c. StandsAtNode dims tree root c 0) (sym e) (record {
    long = root_long dims;
    within = omega arith;
    behind = root_deep dims;
    there = subst (λ o. IsSome o) (sym at) refl;
    front = λ source h. at ∙ sym (prefix_root source h);
  })
    where
      top : Cell ℕ
      top = replicate dims None

      prefix_root : (source : TreeRows) → IsTreeOf dims tree source
          → closure_prefix (eq_by_cmp nat_cmp) source.rows (replicate dims None) 0 ≡ Some (replicate dims None)
      prefix_root source h = ap (λ c. option_map (cell_prefix 0) (closure (eq_by_cmp nat_cmp) source.rows c))
          (cell_prefix-beyond 0 (replicate dims None) (root_deep dims))
          ∙ go (closure (eq_by_cmp nat_cmp) source.rows (replicate dims None)) refl
        where
          node : is_node (eq_by_cmp nat_cmp) source.rows (replicate dims None) ≡ true
          node =
              let t = there tree root (replicate dims None) at in
              subst (λ p. is_node (eq_by_cmp nat_cmp) source.rows p ≡ true) (cell_of tree root (replicate dims None) at)
              (h.canonical.each root (record_at tree root) (there_is tree root t)).0

          go : (o : Option (Cell ℕ)) → closure (eq_by_cmp nat_cmp) source.rows (replicate dims None) ≡ o
              → option_map (cell_prefix 0) o ≡ Some (replicate dims None)
          go None q =
              let bad : None ≡ Some (replicate dims (let e : Option ℕ = None in e))
              = sym (ap (option_map (cell_prefix (depth (replicate dims (let e : Option ℕ = None in e))))) q)
              ∙ (is_node-is code_equality source.rows (replicate dims None)).0 node in
              cc
          go (Some u) q = ap (λ c. Some c) (cell_prefix_zero u
              ∙ ap (λ n. replicate n None)
              (closure_length (eq_by_cmp nat_cmp) dims (replicate dims None) u source.rows h.wide q))

module _ (dims : ℕ) (tree : Tree ℕ) (lists : List (List Text)) (cells : answers.Box ℕ) (source : TreeRows)
    (h : IsTreeOf dims tree source) (distinct : All (IsDistinct bytes_eq) lists) (each : length lists ≡ dims)
    (fits : length cells ≡ dims)
    (known : BoxIsKnown (has_code lists) 0 cells) (ordered : IsOrdered text_cmp (decoded_box lists cells))
    (rows_known : RowsAreKnown (has_code lists) source.rows) where
  tells : TellsApart (has_code lists) (text_in lists)
  tells = texts-apart lists distinct

  abbrev root : Cell ℕ
  root = replicate dims None

  abbrev text_rows : List (Row Text)
  text_rows = decoded_row_list lists source.rows

  abbrev text_box : answers.Box Text
  text_box = decoded_box lists cells

  root_known : AreKnown (has_code lists) 0 root
  root_known = known-root (has_code lists) 0 dims

  text_wide : AllByRecursion (λ row. length row.tuple ≡ dims) text_rows
  text_wide = wide-coded (text_in lists) dims source.rows h.wide

  text_fits : length text_box ≡ dims
  text_fits = length-coded_box (text_in lists) 0 cells ∙ fits

  text_covered : is_covered (eq_by_cmp text_cmp) text_rows (replicate dims None)
      ≡ is_covered (eq_by_cmp nat_cmp) source.rows root
  text_covered = ap (is_covered (eq_by_cmp text_cmp) text_rows) (sym (coded-root (text_in lists) 0 dims))
      ∙ is_covered-coded code_equality text_equality tells source.rows rows_known root root_known

  module _ (some : is_covered (eq_by_cmp nat_cmp) source.rows root ≡ true) where
    text_met : map (coded_cell (text_in lists) 0) (met source cells root 0)
        ≡ filter (answers.in_box (eq_by_cmp text_cmp) text_box) (covered text_cmp text_rows)
    text_met =
        met-coded code_equality text_equality tells source.rows rows_known cells root 0 root_known known
        ∙ ap (λ p. cells_met text_box p 0) (coded-root (text_in lists) 0 dims)
        ∙ met_is text_total text_anti text_rows dims text_wide text_box text_fits ordered (text_covered ∙ some)
      where
        cells_met : answers.Box Text → Cell Text → ℕ → List (Cell Text)
        cells_met = walks.met (eq_by_cmp text_cmp) text_rows

    abbrev text_hit : Cell Text → answers.Hit Text
    text_hit c = record { cell = c; agg = agg (eq_by_cmp text_cmp) source.measures text_rows c }

    -- the cell covers a row, and has an entry for each dimension
    abbrev IsMet : Cell ℕ → Type 0
    IsMet c = (is_covered (eq_by_cmp nat_cmp) source.rows c ≡ true) × (length c ≡ length root)

    all_met : AllByRecursion IsMet (met source cells root 0)
    all_met =
        both (met source cells root 0)
        (met_covered nat_cmp_total nat_cmp-IsAntisymmetric source.rows cells root 0
        (omega (arith, root_long dims, fits)) (root_deep dims) some)
        (met_long nat_cmp_total nat_cmp-IsAntisymmetric source.rows cells root 0 (omega (arith, root_long dims, fits))
        (root_deep dims) some)
      where
        both : (cs : List (Cell ℕ)) → AllByRecursion (λ c. is_covered (eq_by_cmp nat_cmp) source.rows c ≡ true) cs
            → AllByRecursion (λ c. length c ≡ length root) cs → AllByRecursion IsMet cs
        both [] a b = tt
        both (c ∷ cs) a b = ((a.0, b.0), both cs a.1 b.1)

    within_lists : (c : Cell ℕ) → length c ≡ length root → length c ≤ length lists
    within_lists c l = omega (arith, l, root_long dims, each)

    told_all : (cs : List (Cell ℕ)) → AllByRecursion IsMet cs
        → map (decoded_hit lists) (map (hit_at source) cs) ≡ map text_hit (map (coded_cell (text_in lists) 0) cs)
    told_all [] a = refl
    told_all (c ∷ cs) a =
        let same : agg (eq_by_cmp nat_cmp) source.measures source.rows c
        ≡ agg (eq_by_cmp text_cmp) source.measures text_rows (coded_cell (text_in lists) 0 c)
        = sym (agg-coded code_equality text_equality tells source.rows rows_known source.measures c
        (known-covered code_equality text_equality tells source.rows rows_known c a.0.0)) in
        first (decoded_cell lists c) (coded_cell (text_in lists) 0 c)
        (agg (eq_by_cmp nat_cmp) source.measures source.rows c)
        (agg (eq_by_cmp text_cmp) source.measures text_rows (coded_cell (text_in lists) 0 c))
        (told-known lists c (within_lists c a.0.1)) same (told_all cs a.1)
      where
        first : (v w : Cell Text) (x y : Agg) → v ≡ w → x ≡ y → {xs ys : List (answers.Hit Text)} → xs ≡ ys
            → ◌≡◌ {A = List (answers.Hit Text)} (record { cell = v; agg = x } ∷ xs) (record { cell = w; agg = y } ∷ ys)
        first v w x y e f g = ap₂ (λ (h : answers.Hit Text) (hs : List (answers.Hit Text)). h ∷ hs)
            (ap₂ (λ (c : Cell Text) (a : Agg). record { cell = c; agg = a }) e f) g

    hits-told : (hits : List Hit) → decoded_hits lists hits ≡ map (decoded_hit lists) (map hit_in hits)
    hits-told [] = refl
    hits-told (x ∷ hits) = ap (λ xs. decoded_hit lists (hit_in x) ∷ xs) (hits-told hits)

    is_told : (cs : List (Cell ℕ)) → AllByRecursion IsMet cs
        → AllByRecursion (IsDecodableHit lists source.measures) (map (hit_at source) cs)
    is_told [] a = tt
    is_told (c ∷ cs) a = (
      record {
        texts = texts-known lists c (known-covered code_equality text_equality tells source.rows rows_known c a.0.0)
            (within_lists c a.0.1);
        parts = length-map-range_with_len (λ m. part_of (amounts_of m (cov (eq_by_cmp nat_cmp) source.rows c))) 0
            source.measures;
      },
      is_told cs a.1,
    )

    -- and each of them can be told
    pub range_is_told : (hits : List Hit) → map hit_in hits ≡ map (hit_at source) (met source cells root 0)
        → All (λ hit. IsDecodableHit lists source.measures (hit_in hit)) hits
    range_is_told hits e = go hits
        (subst (AllByRecursion (IsDecodableHit lists source.measures)) (sym e)
        (is_told (met source cells root 0) all_met))
      where
        go : (hits : List Hit) → AllByRecursion (IsDecodableHit lists source.measures) (map hit_in hits)
            → All (λ hit. IsDecodableHit lists source.measures (hit_in hit)) hits
        go [] a = λ k d l. absurd (omega arith)
        go (x ∷ hits) a = All-cons (λ hit. IsDecodableHit lists source.measures (hit_in hit)) x hits a.0 (go hits a.1)

    -- what is met are the hits of the answer
    pub range_told : (hits : List Hit) → map hit_in hits ≡ map (hit_at source) (met source cells root 0)
        → decoded_hits lists hits ≡ answers.range text_cmp source.measures text_rows text_box
    range_told hits e =
        hits-told hits
        ∙ ap (map (decoded_hit lists)) e
        ∙ told_all (met source cells root 0) all_met
        ∙ ap (map text_hit) text_met

    pub range_long : length (answers.range text_cmp source.measures text_rows text_box)
        ≡ length (met source cells root 0)
    range_long =
        length-map (filter (answers.in_box (eq_by_cmp text_cmp) text_box) (covered text_cmp text_rows)) text_hit
        ∙ ap length (sym text_met)
        ∙ length-map (met source cells root 0) (coded_cell (text_in lists) 0)

    range_hits : length (answers.range text_cmp source.measures text_rows text_box)
        ≡ length (filter (answers.in_box (eq_by_cmp text_cmp) text_box) (covered text_cmp text_rows))
    range_hits = length-map
        (filter (answers.in_box (eq_by_cmp text_cmp) text_box) (covered text_cmp text_rows)) text_hit

    pub range_cost : cost source cells root 0 ≤ work text_cmp text_rows text_box
        + 2 * length (answers.range text_cmp source.measures text_rows text_box)
    range_cost =
        let same = cost-coded code_equality text_equality tells source.rows rows_known cells root 0 root_known known
        ∙ ap (λ p. walks.cost (eq_by_cmp text_cmp) text_rows text_box p 0) (coded-root (text_in lists) 0 dims) in
        let le = work_is text_total text_anti text_rows dims text_wide text_box text_fits ordered
        (text_covered ∙ some) in
        omega (arith, same, le, range_hits)

    pub range_few : length (answers.range text_cmp source.measures text_rows text_box) ≤ 1
        + work text_cmp text_rows text_box
    range_few =
        let le = cells_within text_total text_anti text_rows dims text_wide text_box text_fits ordered
        (text_covered ∙ some) in
        omega (arith, le, range_hits)

  -- without a root there are no hits
  pub range_none : ((k : ℕ) → cell_at tree k ≢ Some (replicate dims None))
      → [] ≡ answers.range text_cmp source.measures text_rows text_box
  range_none none =
      let gone : closure (eq_by_cmp nat_cmp) source.rows root ≡ None
      = no_root nat_cmp_total nat_cmp-IsAntisymmetric dims source.measures source.rows h.wide tree h.canonical root
      (root_long dims) none in
      sym (ap (map (λ c. record { cell = c; agg = agg (eq_by_cmp text_cmp) source.measures text_rows c }))
      (none_is text_total text_anti text_rows dims text_wide text_box text_fits (text_covered ∙ ap is_some gone)))

  pub root_covered : (node : ℕ) → StandsAtNode dims tree node root 0
      → is_covered (eq_by_cmp nat_cmp) source.rows root ≡ true
  root_covered node s = stands_covered dims tree node root 0 s source h

  module _ (node : ℕ) (p : Cell ℕ) (is : p ≡ replicate dims None)
      (at : cell_at tree node ≡ Some (replicate dims None)) where
    begun : is_covered (eq_by_cmp nat_cmp) source.rows root ≡ true
    begun = root_covered node (stands_root dims tree node root refl at)

    pub answer_told : (hits before : List Hit) → before ≡ []
        → map hit_in hits ≡ map hit_in before ++ map (hit_at source) (met source (drop 0 cells) p 0)
        → decoded_hits lists hits ≡ answers.range text_cmp source.measures text_rows text_box
    answer_told hits before none e
        = range_told begun hits (e ∙ ap (λ xs. map hit_in xs ++ map (hit_at source) (met source cells p 0)) none
        ∙ ap (λ c. map (hit_at source) (met source cells c 0)) is)

    pub answer_is_told : (hits before : List Hit) → before ≡ []
        → map hit_in hits ≡ map hit_in before ++ map (hit_at source) (met source (drop 0 cells) p 0)
        → All (λ hit. IsDecodableHit lists source.measures (hit_in hit)) hits
    answer_is_told hits before none e =
        range_is_told begun hits (e ∙ ap (λ xs. map hit_in xs ++ map (hit_at source) (met source cells p 0)) none
        ∙ ap (λ c. map (hit_at source) (met source cells c 0)) is)

    pub answer_more : (limit : ℕ) (before : List Hit) → before ≡ []
        → limit < length before + length (met source (drop 0 cells) p 0)
        → limit < length (answers.range text_cmp source.measures text_rows text_box)
    answer_more limit before none l =
        let a : length before ≡ 0 = ap length none in
        let b : length (met source cells p 0) ≡ length (met source cells root 0)
        = ap (λ c. length (met source cells c 0)) is in
        omega (arith, l, a, b, range_long begun)

    pub answer_few : length (answers.range text_cmp source.measures text_rows text_box) ≤ 1
        + work text_cmp text_rows text_box
    answer_few = range_few begun

    pub answer_steps : (old read new : ℕ) → read ≡ old + 1 → new ≤ read + cost source (drop 0 cells) p 0
        → new ≤ old + (1 + work text_cmp text_rows text_box
        + 2 * length (answers.range text_cmp source.measures text_rows text_box))
    answer_steps old read new e l =
        let b : cost source cells p 0 ≡ cost source cells root 0 = ap (λ c. cost source cells c 0) is in
        omega (arith, l, e, b, range_cost begun)
