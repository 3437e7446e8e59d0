-- A node that doesn't cover a row keeps its record as the row comes or goes, and leads to none that covers it.
use Rattle.std.proofs.Common.{◌≡◌, ℕ, ◌-◌, ◌≤◌, ◌<◌, false, cond, Some, None, List, ◌∷◌, ◌++◌, filter_map, length, slice_get, sym, ap, ap₂}
use Rattle.std.proofs.Common.{◌∙◌, true≢false}
use Rattle.std.proofs.lemmas.Bool.{false_from_ne_true}
use Rattle.std.specs.declared.cmp.Ordering.{Ordering}
use Rattle.std.specs.Ordering.{eq_by_cmp}
use Rattle.std.specs.Option.{option_map}
use Rattle.cube_defs.specs.Cell.{Cell, cell_of, depth, with_value, upto, cell_eq}
use Rattle.cube_defs.specs.Rows.{Row, covers, closure, agg_of}
use Rattle.cube_defs.specs.Tree.{node_of, node_with, edges_in, values_at, next_value, as_list, forced_child, distinct, parent_cell_of}
use Rattle.cube_laws.proofs.CallerLemmas.{IsEquality, leq_trans, cov_stays, closure_stays}
use Rattle.tree_laws.specs.Labels.{target_of_label, record_of}
use Rattle.tree_laws.proofs.Lists.{filter_map_same, option_map_same, flat_map_range}
use Rattle.tree_laws.proofs.Prefixes.{leq-with_value}
use Rattle.tree_laws.proofs.Children.{lead_above}

module _ {A : Type 0} (cmp : A → A → Ordering) (law : IsEquality (eq_by_cmp cmp)) (measures : ℕ) (xs : List (Row A))
    (r : Row A) (ys : List (Row A)) where
  beyond : (p : Cell A) (i : ℕ) (v : A) → depth p ≤ i → covers (eq_by_cmp cmp) p r ≡ false
      → covers (eq_by_cmp cmp) (with_value p i v) r ≡ false
  beyond p i v l h = false_from_ne_true _
      (λ k. true≢false (sym (leq_trans law p (with_value p i v) (cell_of r.tuple) (leq-with_value law p i v l) k) ∙ h))

  edges_stay : (p : Cell A) (i : ℕ) → depth p ≤ i → covers (eq_by_cmp cmp) p r ≡ false
      → edges_in cmp (xs ++ r ∷ ys) p i ≡ edges_in cmp (xs ++ ys) p i
  edges_stay p i l h =
      let same : values_at cmp (xs ++ r ∷ ys) p i ≡ values_at cmp (xs ++ ys) p i
      = ap (λ covered. distinct cmp (filter_map (λ row. slice_get row.tuple i) covered))
      (cov_stays law xs r ys p h) in
      filter_map_same _ _ _ (λ v. ap (option_map (λ u. record { dim = i; value = v; target = upto u i }))
      (closure_stays law xs r ys (with_value p i v) (beyond p i v l h)))
      ∙ ap (λ values. filter_map (λ v. option_map (λ u. record { dim = i; value = v; target = upto u i })
      (closure (eq_by_cmp cmp) (xs ++ ys) (with_value p i v))) values) same

  with_stays : (p u : Cell A) (e : ℕ) → covers (eq_by_cmp cmp) p r ≡ false
      → node_with cmp measures (xs ++ r ∷ ys) p u e ≡ node_with cmp measures (xs ++ ys) p u e
  with_stays p u e h =
      ap₂ (λ a es. record {
        cell = p;
        parent = parent_cell_of cmp p;
        class = cond (cell_eq (eq_by_cmp cmp) u p) (Some a) None;
        forced = forced_child cmp p u e;
        edges = es ++ as_list cmp (forced_child cmp p u e);
      })
      (ap (agg_of measures) (cov_stays law xs r ys p h))
      (flat_map_range _ _ (depth p) (e - depth p) (λ i l. edges_stay p i l h))

  pub record_stays : (p : Cell A) → covers (eq_by_cmp cmp) p r ≡ false
      → node_of cmp measures (xs ++ r ∷ ys) p ≡ node_of cmp measures (xs ++ ys) p
  record_stays p h =
      ap (λ o. option_map (λ u. record_of cmp measures (xs ++ r ∷ ys) p u) o) (closure_stays law xs r ys p h)
      ∙ option_map_same _ _ (closure (eq_by_cmp cmp) (xs ++ ys) p) (λ u. with_stays p u (next_value cmp (depth p) u) h)

  -- a node that doesn't cover the row leads to none that does, with or without the row
  pub lead_apart : (rows : List (Row A)) (p : Cell A) (i : ℕ) (v : A) (c : Cell A) → depth p ≤ i → i < length p
      → target_of_label (eq_by_cmp cmp) rows p i v ≡ Some c → covers (eq_by_cmp cmp) p r ≡ false
      → covers (eq_by_cmp cmp) c r ≡ false
  lead_apart rows p i v c d l h o
      = false_from_ne_true _ (λ k. true≢false
      (sym (leq_trans law (with_value p i v) c (cell_of r.tuple) (lead_above law rows p i v c d l h) k)
      ∙ beyond p i v d o))
