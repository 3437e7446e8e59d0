-- Rows with the same tuples have the same records, but for what the rows come to.
use Rattle.std.proofs.Common.{◌≡◌, ◌↔◌, ℕ, ◌-◌, true, Bool, false, cond, Option, Some, None, List, [], ◌++◌, filter_map, flat_map, refl}
use Rattle.std.proofs.Common.{sym, ap, ap₂, ◌∙◌, slice_get}
use Rattle.std.specs.declared.cmp.Ordering.{Ordering}
use Rattle.std.specs.Ordering.{eq_by_cmp}
use Rattle.std.specs.Cmp.{IsTotalOrder}
use Rattle.std.specs.FinMap.{IsAntisymmetric}
use Rattle.std.specs.List.{range_with_len}
use Rattle.std.specs.Option.{option_map}
use Rattle.cube_defs.specs.Cell.{Cell, leq, cell_of, depth, upto, with_value, cell_eq}
use Rattle.cube_defs.specs.Rows.{Row, Agg, covers, cov, closure, agg}
use Rattle.cube_defs.specs.Tree.{Tree, IsCanonical, node_of, node_with, edges_in, values_at, next_value, as_list, forced_child}
use Rattle.cube_defs.specs.Tree.{parent_cell_of, renamed}
use Rattle.cube_laws.specs.Lists.{Among, Reordered}
use Rattle.cube_laws.specs.Tuples.{TuplesAmong}
use Rattle.cube_laws.proofs.CallerLemmas.{among_filter, filter_among, among_filter_map, among-reordered, among_distinct, rises_distinct}
use Rattle.cube_laws.proofs.CallerLemmas.{rises_same, equality_by, agg-reordered, closure_by_tuples, node_by_tuples}
use Rattle.tree_laws.specs.Labels.{record_of}
use Rattle.tree_laws.specs.Renaming.{shape}
use Rattle.tree_laws.proofs.Lists.{filter_map_same, flat_map_range, option_map_same}

module _ {A : Type 0} {cmp : A → A → Ordering} (total : IsTotalOrder cmp) (anti : IsAntisymmetric cmp) where
  module _ (measures : ℕ) (rows more : List (Row A)) (f : TuplesAmong rows more) (g : TuplesAmong more rows) where
    value_among : (rows more : List (Row A)) → TuplesAmong rows more → (p : Cell A) (i : ℕ) (v : A)
        → Among v (values_at cmp rows p i) → Among v (values_at cmp more p i)
    value_among rows more f p i v m =
        let s : (s : Row A) × Among s (cov (eq_by_cmp cmp) rows p) × (slice_get s.tuple i ≡ Some v)
        = (among_filter_map (λ (row : Row A). slice_get row.tuple i) v (cov (eq_by_cmp cmp) rows p)).0
        ((among_distinct total anti v
        (filter_map (λ (row : Row A). slice_get row.tuple i) (cov (eq_by_cmp cmp) rows p))).0 m) in
        let c : Among s.0 rows × (covers (eq_by_cmp cmp) p s.0 ≡ true)
        = filter_among (covers (eq_by_cmp cmp) p) s.0 rows s.1 in
        let q : (q : Row A) × Among q more × (q.tuple ≡ s.0.tuple) = f s.0 c.0 in
        (among_distinct total anti v
        (filter_map (λ (row : Row A). slice_get row.tuple i) (cov (eq_by_cmp cmp) more p))).1
        ((among_filter_map (λ (row : Row A). slice_get row.tuple i) v (cov (eq_by_cmp cmp) more p)).1 (
          q.0,
          among_filter (covers (eq_by_cmp cmp) p) q.0 more q.1 (ap (λ t. leq (eq_by_cmp cmp) p (cell_of t)) q.2
              ∙ c.1),
          ap (λ t. slice_get t i) q.2 ∙ s.2,
        ))

    values_same : (p : Cell A) (i : ℕ) → values_at cmp rows p i ≡ values_at cmp more p i
    values_same p i = rises_same total anti _ _
        (rises_distinct total anti (filter_map (λ row. slice_get row.tuple i) (cov (eq_by_cmp cmp) rows p)))
        (rises_distinct total anti (filter_map (λ row. slice_get row.tuple i) (cov (eq_by_cmp cmp) more p)))
        (value_among rows more f p i) (value_among more rows g p i)

    edges_same : (p : Cell A) (i : ℕ) → edges_in cmp rows p i ≡ edges_in cmp more p i
    edges_same p i =
        filter_map_same _ _ (values_at cmp rows p i)
        (λ v. ap (option_map (λ u. record { dim = i; value = v; target = upto u i }))
        (closure_by_tuples (equality_by total anti) rows more f g (with_value p i v)))
        ∙ ap (λ values. filter_map (λ v. option_map (λ u. record { dim = i; value = v; target = upto u i })
        (closure (eq_by_cmp cmp) more (with_value p i v))) values) (values_same p i)

    all_edges : (p u : Cell A) (e : ℕ) → flat_map (edges_in cmp rows p) (range_with_len (depth p) (e - depth p))
        ≡ flat_map (edges_in cmp more p) (range_with_len (depth p) (e - depth p))
    all_edges p u e = flat_map_range _ _ (depth p) (e - depth p) (λ i l. edges_same p i)

    shape_with : (p u : Cell A) (e : ℕ)
        → shape (node_with cmp measures rows p u e) ≡ shape (node_with cmp measures more p u e)
    shape_with p u e =
        ap₂ (λ a es. record {
          cell = p;
          parent = parent_cell_of cmp p;
          class = a;
          forced = forced_child cmp p u e;
          edges
              = es ++ as_list cmp (forced_child cmp p u e);
        })
        (marked (cell_eq (eq_by_cmp cmp) u p) (agg (eq_by_cmp cmp) measures rows p)
        (agg (eq_by_cmp cmp) measures more p)) (all_edges p u e)
      where
        marked : (b : Bool) (x y : Agg) → option_map (λ a. let z : Agg = record { count = 0; parts = [] } in
            z) (cond b (Some x) None) ≡ option_map (λ a. let z : Agg = record { count = 0; parts = [] } in
            z) (cond b (Some y) None)
        marked true x y = refl
        marked false x y = refl

    pub shape_by_tuples : (p : Cell A)
        → option_map shape (node_of cmp measures rows p) ≡ option_map shape (node_of cmp measures more p)
    shape_by_tuples p = shaped (closure (eq_by_cmp cmp) rows p)
        ∙ ap (λ o. option_map shape (option_map (λ u. record_of cmp measures more p u) o))
        (closure_by_tuples (equality_by total anti) rows more f g p)
      where
        shaped : (o : Option (Cell A)) → option_map shape (option_map (λ u. record_of cmp measures rows p u) o)
            ≡ option_map shape (option_map (λ u. record_of cmp measures more p u) o)
        shaped None = refl
        shaped (Some u) = ap (λ x. Some x) (shape_with p u (next_value cmp (depth p) u))

    -- with the same aggregates they are all the same
    pub record_by_tuples : (p : Cell A) → agg (eq_by_cmp cmp) measures rows p ≡ agg (eq_by_cmp cmp) measures more p
        → node_of cmp measures rows p ≡ node_of cmp measures more p
    record_by_tuples p same =
        option_map_same _ _ (closure (eq_by_cmp cmp) rows p) (λ u.
        ap₂ (λ a es. record {
          cell = p;
          parent = parent_cell_of cmp p;
          class
              = cond (cell_eq (eq_by_cmp cmp) u p) (Some a) None;
          forced
              = forced_child cmp p u (next_value cmp (depth p) u);
          edges
              = es ++ as_list cmp (forced_child cmp p u (next_value cmp (depth p) u));
        })
        same (all_edges p u (next_value cmp (depth p) u)))
        ∙ ap (λ o. option_map (λ u. record_of cmp measures more p u) o)
        (closure_by_tuples (equality_by total anti) rows more f g p)

    pub canonical_by_tuples : ((p : Cell A) → agg (eq_by_cmp cmp) measures rows p ≡ agg (eq_by_cmp cmp) measures more p)
        → (tree : Tree A) → IsCanonical cmp measures rows tree → IsCanonical cmp measures more tree
    canonical_by_tuples same tree h = record {
      each = λ k n e.
          let r = h.each k n e in (
            sym (node_by_tuples (equality_by total anti) rows more f g n.cell) ∙ r.0,
            r.1
                ∙ ap (option_map (renamed (λ c. Some c))) (record_by_tuples n.cell (same n.cell)),
          );
      once = h.once;
      all = λ c e. h.all c (node_by_tuples (equality_by total anti) rows more f g c ∙ e);
    }

  module _ (measures : ℕ) (rows more : List (Row A)) (h : Reordered rows more) where
    there : TuplesAmong rows more
    there r m = (r, (among-reordered rows more h r).1 m, refl)

    back : TuplesAmong more rows
    back r m = (r, (among-reordered rows more h r).0 m, refl)

    same : (p : Cell A) → agg (eq_by_cmp cmp) measures rows p ≡ agg (eq_by_cmp cmp) measures more p
    same p = sym (agg-reordered (eq_by_cmp cmp) measures rows more p h)

    -- in whichever order the rows stand
    pub record-reordered : (p : Cell A) → node_of cmp measures rows p ≡ node_of cmp measures more p
    record-reordered p = record_by_tuples measures rows more there back p (same p)

    pub canonical-reordered : (tree : Tree A) → IsCanonical cmp measures rows tree ↔ IsCanonical cmp measures more tree
    canonical-reordered tree
        = (
          canonical_by_tuples measures rows more there back same tree,
          canonical_by_tuples measures more rows back there (λ p. sym (same p)) tree,
        )
