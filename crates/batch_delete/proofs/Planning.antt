-- What becomes of a class that generalizes the tuple: its prefix, its labels, and the other rows of the tuple.
use Rattle.std.proofs.Common.{◌≡◌, ◌≢◌, ◌∙◌, ℕ, zero, suc, ◌≤◌, true, inl, inr, Option, Some, None, List, [], ◌∷◌, ap, ap₂, arith, length}
use Rattle.std.proofs.Common.{nat_cmp, nat_eq, refl, slice_get, sym}
use Rattle.std.proofs.lemmas.Bool.{and_parts, cond-true}
use Rattle.std.proofs.lemmas.List.Sums.{sum_by-cons}
use Rattle.std.specs.Option.{option_map}
use Rattle.std.specs.Ordering.{eq_by_cmp}
use Rattle.std.specs.Prelude.{if◌then◌else◌}
use Rattle.aggregates.specs.declared.agg.Agg.{Agg}
use Rattle.aggregates.specs.Views.{agg_in}
use Rattle.cube_defs.specs.Cell.{Cell, cell_eq, cell_of, entry_leq, cell_prefix, leq}
use Rattle.cube_defs.specs.Rows.{Row, agg, closure, covers}
use Rattle.cube_defs.specs.Tree.{Tree, cell_at}
use Rattle.cube_laws.specs.Parts.{IsLastAny}
use Rattle.cube_laws.specs.Total.{agg_at}
use Rattle.cube_laws.proofs.CallerLemmas.{cell_eq-same, depth-le, cell_prefix-leq, length-cell_of, length-cell_prefix, leq_trans}
use Rattle.cube_laws.proofs.CallerLemmas.{nat_equality, is_class-is, leq-closure, entry_of_leq, closure_length, tuple_or_last_any}
use Rattle.cube_laws.proofs.CallerLemmas.{all-insert, none_some, class_prefixes, one_test}
use Rattle.qc_arena.specs.RecordReaders.{record_at}
use Rattle.tree_laws.proofs.CallerLemmas.{some_same}
use Rattle.tree_search.specs.Found.{IsTreeOf, closure_in}
use Rattle.batch_delete.specs.declared.generalizing.NodeCell.{NodeCell}
use Rattle.batch_delete.specs.Generalizing.{AreGeneralizing}
use Rattle.batch_delete.specs.Plan.{prefix_labels, labels_of, last_any_of, last_any_with}
use Rattle.batch_delete.specs.Rests.{Deletion, IsRest, rows_after, rows_before, source_before}
use Rattle.batch_delete.proofs.Labelled.{law}
use Rattle.batch_delete.proofs.Resting.{total_agg}

none_last : (u : Cell ℕ) → ((k : ℕ) → slice_get u k ≡ Some None → ⊥) → last_any_of u ≡ None
none_last [] h = refl
none_last (e ∷ u) h = ap (last_any_with e) (none_last u (λ k. h (suc k))) ∙ by e (h 0)
  where
    by : (e : Option ℕ) → (Some e ≡ Some None → ⊥) → last_any_with e None ≡ None
    by None h = absurd (h refl)
    by (Some v) h = refl

-- the last dimension of Any, as it is found
pub is_last : (u : Cell ℕ) (i : ℕ) → IsLastAny u i → last_any_of u ≡ Some i
is_last [] i p = let bad = p.any in cc
is_last (e ∷ u) zero p = ap (last_any_with e) (none_last u (λ k m. p.last (suc k) (omega arith) m)) ∙ by e p.any
  where
    by : (e : Option ℕ) → Some e ≡ Some None → last_any_with e None ≡ Some 0
    by None h = refl
    by (Some v) h = cc
is_last (e ∷ u) (suc i) p
    = ap (last_any_with e) (is_last u i (record { any = p.any; last = λ k l m. p.last (suc k) (omega arith) m })) ∙ by e
  where
    by : (e : Option ℕ) → last_any_with e (Some i) ≡ Some (suc i)
    by None = refl
    by (Some v) = refl

-- the labels of a node of the list are counted at its cell
pub labels_counted : (tree : Tree ℕ) (list : List NodeCell) (c : Cell ℕ) (k : ℕ) (b : NodeCell)
    → slice_get list k ≡ Some b → b.cell ≡ c → length (record_at tree b.node.0).edges ≤ labels_of tree list c
labels_counted tree [] c k b at same = cc
labels_counted tree (x ∷ list) c zero b at same =
    let is : x ≡ b = some_same at in
    let test : cell_eq nat_eq x.cell c ≡ true = ap (λ z. cell_eq nat_eq z c) (ap (λ (y : NodeCell). y.cell) is ∙ same)
    ∙ cell_eq-same nat_equality c in
    let first : (if cell_eq nat_eq x.cell c then length (record_at tree x.node.0).edges else 0)
    ≡ length (record_at tree b.node.0).edges = cond-true _ _ _ test
    ∙ ap (λ (y : NodeCell). length (record_at tree y.node.0).edges) is in
    let all = sum_by-cons (λ (b : NodeCell). if cell_eq nat_eq b.cell c then length (record_at tree b.node.0).edges
    else 0) x list in
    omega arith
labels_counted tree (x ∷ list) c (suc k) b at same =
    let more = labels_counted tree list c k b at same in
    let all = sum_by-cons (λ (b : NodeCell). if cell_eq nat_eq b.cell c then length (record_at tree b.node.0).edges
    else 0) x list in
    omega arith

-- a cell that specializes a tuple is its cell
pub full_top : (t : List ℕ) (c : Cell ℕ) → leq (eq_by_cmp nat_cmp) (cell_of t) c ≡ true → length c ≡ length t
    → c ≡ cell_of t
full_top [] [] h l = refl
full_top [] (e ∷ c) h l = absurd (omega arith)
full_top (x ∷ t) [] h l = absurd (omega arith)
full_top (x ∷ t) (e ∷ c) h l =
    let p = and_parts (entry_leq (eq_by_cmp nat_cmp) (Some x) e) (leq (eq_by_cmp nat_cmp) (cell_of t) c) h in
    ap₂ (λ y ys. y ∷ ys) (entry_of_leq law x e p.0) (full_top t c p.1 (omega arith))

module _ (measures : ℕ) (rows : List (Row ℕ)) (c : Cell ℕ) where
  pub no_rows : agg_at (eq_by_cmp nat_cmp) measures rows c ≡ None → closure (eq_by_cmp nat_cmp) rows c ≡ None
  no_rows e = go (closure (eq_by_cmp nat_cmp) rows c) refl
    where
      go : (o : Option (Cell ℕ)) → closure (eq_by_cmp nat_cmp) rows c ≡ o → closure (eq_by_cmp nat_cmp) rows c ≡ None
      go None q = q
      go (Some u) q = absurd (none_some (sym (ap (option_map (λ _. agg (eq_by_cmp nat_cmp) measures rows c)) (sym q)
          ∙ total_agg measures rows c ∙ e)))

  some_rows : (a : _) → agg_at (eq_by_cmp nat_cmp) measures rows c ≡ Some a → (u : Cell ℕ)
      × (closure (eq_by_cmp nat_cmp) rows c ≡ Some u)
  some_rows a e = go (closure (eq_by_cmp nat_cmp) rows c) refl
    where
      go : (o : Option (Cell ℕ)) → closure (eq_by_cmp nat_cmp) rows c ≡ o → (u : Cell ℕ)
          × (closure (eq_by_cmp nat_cmp) rows c ≡ Some u)
      go None q = absurd (none_some (ap (option_map (λ _. agg (eq_by_cmp nat_cmp) measures rows c)) (sym q)
          ∙ total_agg measures rows c ∙ e))
      go (Some u) q = (u, q)

module _ (dims : ℕ) (tree : Tree ℕ) (d : Deletion) (h : IsTreeOf dims tree (source_before d)) (tuple : Cell ℕ)
    (wide : length tuple ≡ dims) (row : tuple ≡ cell_of d.r.tuple) (u : Cell ℕ) (long : length u ≡ dims)
    (below : covers (eq_by_cmp nat_cmp) u d.r ≡ true) where
  pub low : leq nat_eq u tuple ≡ true
  low = rw (← one_test) (rw row below)

  pub prefix_there : closure_in (source_before d) u ≡ Some u → (i : ℕ) → (q : ℕ)
      × (cell_at tree q ≡ Some (cell_prefix i u))
  prefix_there own i = h.canonical.all (cell_prefix i u)
      (class_prefixes law (rows_before d) i u ((is_class-is law (rows_before d) u).1 own))

  -- the labels of a class's prefix are counted
  pub prefix_counted : (list : List NodeCell) → AreGeneralizing tree tuple (length tuple) list → (i : ℕ) → IsLastAny u i
      → (q : ℕ) → cell_at tree q ≡ Some (cell_prefix i u)
      → length (record_at tree q).edges ≤ prefix_labels tree list u (last_any_of u)
  prefix_counted list are i last q at =
      let f = are.all q (cell_prefix i u) at
      (leq_trans nat_equality (cell_prefix i u) u tuple (cell_prefix-leq nat_equality i u) low)
      (omega (arith, depth-le (cell_prefix i u), length-cell_prefix i u, long, wide)) in
      let counted = labels_counted tree list (cell_prefix i u) f.0 f.1 f.2
      (some_same (sym (are.cells f.0 f.1 f.2) ∙ ap (cell_at tree) f.3 ∙ at)) in
      let is : prefix_labels tree list u (last_any_of u) ≡ labels_of tree list (cell_prefix i u)
      = ap (prefix_labels tree list u) (is_last u i last) in
      let here = ap (λ q. length (record_at tree q).edges) f.3 in
      omega arith

  -- a class without Any is the tuple
  pub all_values : ((k : ℕ) → slice_get u k ≢ Some None) → u ≡ tuple
  all_values none = elim (tuple_or_last_any law u d.r.tuple below (long ∙ sym wide ∙ ap length row
      ∙ length-cell_of d.r.tuple)) [
        | inl e ↦ e ∙ sym row
        | inr i ↦ absurd (none i.0 i.1.any)
      ]

  pub no_twins : u ≡ tuple → None ≡ agg_at (eq_by_cmp nat_cmp) d.measures (rows_after d) tuple
      → IsRest d.measures (rows_after d) u None
  no_twins same e =
      let at = e ∙ ap (agg_at (eq_by_cmp nat_cmp) d.measures (rows_after d)) (sym same) in
      record { cells = sym (no_rows d.measures (rows_after d) u (sym at)); aggs = at }

  pub the_twins : u ≡ tuple → (a : Agg) → Some (agg_in a) ≡ agg_at (eq_by_cmp nat_cmp) d.measures (rows_after d) tuple
      → (shared : Cell ℕ) → shared ≡ u → IsRest d.measures (rows_after d) u (Some (record { shared = shared; agg = a }))
  the_twins same a e shared own =
      let at = e ∙ ap (agg_at (eq_by_cmp nat_cmp) d.measures (rows_after d)) (sym same) in
      let w = some_rows d.measures (rows_after d) u (agg_in a) (sym at) in
      let full : u ≡ cell_of d.r.tuple = same ∙ row in
      let wl : length w.0 ≡ dims
      = closure_length (eq_by_cmp nat_cmp) dims u w.0 (rows_after d)
      (all-insert (λ row. length row.tuple ≡ dims) d.xs d.r d.ys h.wide).0 w.1 in
      let top : w.0 ≡ cell_of d.r.tuple
      = full_top d.r.tuple w.0
      (rw (← full) (leq-closure law (rows_after d) u w.0 w.1)) (wl
      ∙ sym wide ∙ ap length row ∙ length-cell_of d.r.tuple) in
      record { cells = ap (λ c. Some c) (own ∙ full ∙ sym top) ∙ sym w.1; aggs = at }
