-- The edges of a record are the labels that lead somewhere.
use Rattle.std.proofs.Common.{◌≡◌, ◌↔◌, ℕ, ◌+◌, ◌-◌, ◌≤◌, ◌<◌, true, Option, Some, None, List, length, slice_get, flat_map, refl, sym, ap}
use Rattle.std.proofs.Common.{ap₂, subst, ◌∙◌, inl, inr, arith}
use Rattle.std.proofs.lemmas.Bool.{and_parts, and_from}
use Rattle.std.specs.declared.cmp.Ordering.{Ordering}
use Rattle.std.specs.Ordering.{eq_by_cmp}
use Rattle.std.specs.Cmp.{IsTotalOrder}
use Rattle.std.specs.FinMap.{IsAntisymmetric}
use Rattle.std.specs.List.{range_with_len}
use Rattle.std.specs.Option.{option_map, option_and_then}
use Rattle.std.proofs.lemmas.Option.{slice_get_within}
use Rattle.cube_defs.specs.Cell.{Cell, leq, cell_of, depth, cell_prefix, upto, with_value}
use Rattle.cube_defs.specs.Rows.{Row, covers, cov, closure}
use Rattle.cube_defs.specs.Tree.{Edge, edges_in, values_at, next_value, as_list, forced_child}
use Rattle.cube_laws.specs.Lists.{Among}
use Rattle.cube_laws.proofs.CallerLemmas.{among_append, among_flat_map, among_filter, among_filter_map, among_distinct, IsEquality}
use Rattle.cube_laws.proofs.CallerLemmas.{leq_trans, length-cell_prefix, depth-le, closure_mono, leq-closure, one_value, one_value-leq}
use Rattle.cube_laws.proofs.CallerLemmas.{slice_get-cell_of, equality_by, some_covered}
use Rattle.tree_laws.specs.Labels.{target_of_label, IsLabel, record_of}
use Rattle.tree_laws.proofs.Lists.{first_of_range, among_range, some_same}
use Rattle.tree_laws.proofs.Prefixes.{leq-with_value, with_value-leq, upto-entry}
use Rattle.tree_laws.proofs.Nexts.{next-ge, next-le, cell_prefix-next, next-entry}
use Rattle.tree_laws.proofs.Leads.{closure_between}

module _ {A : Type 0} {cmp : A → A → Ordering} (total : IsTotalOrder cmp) (anti : IsAntisymmetric cmp) where
  law : IsEquality (eq_by_cmp cmp)
  law = equality_by total anti

  -- what leads somewhere is a value of a covered row
  pub leads_value : (rows : List (Row A)) (p w : Cell A) (i : ℕ) (v : A) → depth p ≤ i → i < length p
      → closure (eq_by_cmp cmp) rows (with_value p i v) ≡ Some w → Among v (values_at cmp rows p i)
  leads_value rows p w i v h l e =
      let c : (r : Row A) × Among r rows × (covers (eq_by_cmp cmp) (with_value p i v) r ≡ true)
      = some_covered (eq_by_cmp cmp) 0 (with_value p i v) w rows e in
      let both = and_parts (leq (eq_by_cmp cmp) p (cell_of c.0.tuple))
      (leq (eq_by_cmp cmp) (one_value i v) (cell_of c.0.tuple))
      (sym (with_value-leq law p (cell_of c.0.tuple) i v h l) ∙ c.2) in
      let has : slice_get c.0.tuple i ≡ Some v
      = (slice_get-cell_of c.0.tuple i v).0 ((one_value-leq law i v (cell_of c.0.tuple)).0 both.1) in
      (among_distinct total anti v _).1
      ((among_filter_map (λ (row : Row A). slice_get row.tuple i) v (cov (eq_by_cmp cmp) rows p)).1 (
        c.0,
        among_filter (covers (eq_by_cmp cmp) p) c.0 rows c.1 both.0,
        has,
      ))

  -- the edges in a dimension are what leads somewhere
  pub edges_in-are : (rows : List (Row A)) (p : Cell A) (i : ℕ) (x : Edge A (Cell A)) → depth p ≤ i → i < length p
      → Among x (edges_in cmp rows p i)
      ↔ ((x.dim ≡ i) × (target_of_label (eq_by_cmp cmp) rows p i x.value ≡ Some x.target))
  edges_in-are rows p i x h l = (
    λ m. let r : (v : A) × Among v (values_at cmp rows p i) × (made v ≡ Some x)
        = (among_filter_map made x (values_at cmp rows p i)).0 m in
        from r.0 (closure (eq_by_cmp cmp) rows (with_value p i r.0)) refl r.2,
    λ m. to (closure (eq_by_cmp cmp) rows (with_value p i x.value)) refl m.0 m.1,
  )
    where
      made : A → Option (Edge A (Cell A))
      made v = option_map (λ u. record { dim = i; value = v; target = upto u i })
          (closure (eq_by_cmp cmp) rows (with_value p i v))

      from : (v : A) (o : Option (Cell A)) → closure (eq_by_cmp cmp) rows (with_value p i v) ≡ o
          → option_map (λ u. record { dim = i; value = v; target = upto u i }) o ≡ Some x
          → (x.dim ≡ i) × (target_of_label (eq_by_cmp cmp) rows p i x.value ≡ Some x.target)
      from v None e k = cc
      from v (Some w) e k = let is : record { dim = i; value = v; target = upto w i } ≡ x = cc in (
        ap (λ y. y.dim) (sym is),
        subst (λ y. target_of_label (eq_by_cmp cmp) rows p i y.value ≡ Some y.target) is
            (ap (option_map (λ w. upto w i)) e),
      )

      to : (o : Option (Cell A)) → closure (eq_by_cmp cmp) rows (with_value p i x.value) ≡ o → x.dim ≡ i
          → target_of_label (eq_by_cmp cmp) rows p i x.value ≡ Some x.target → Among x (edges_in cmp rows p i)
      to None e d k = let bad : None ≡ Some x.target = sym (ap (option_map (λ w. upto w i)) e) ∙ k in cc
      to (Some w) e d k =
          let is : Some (upto w i) ≡ Some x.target = sym (ap (option_map (λ w. upto w i)) e) ∙ k in
          (among_filter_map made x (values_at cmp rows p i)).1 (
            x.value,
            leads_value rows p w i x.value h l e,
            ap (option_map (λ u. record { dim = i; value = x.value; target = upto u i })) e
                ∙ ap₂ (λ a b. Some (record { dim = a; value = x.value; target = b })) (sym d) (cc),
          )

  -- in the dimension of the closure's value there is one label, which leads to the forced child
  pub forced_lead : (rows : List (Row A)) (p u : Cell A) (e : ℕ) (w : A) → closure (eq_by_cmp cmp) rows p ≡ Some u
      → depth p ≤ e → e < length p → slice_get u e ≡ Some (Some w)
      → closure (eq_by_cmp cmp) rows (with_value p e w) ≡ Some u
  forced_lead rows p u e w is h l k =
      closure_between law rows p (with_value p e w) u is (leq-with_value law p e w h)
      (with_value-leq law p u e w h l ∙ and_from _ _ (leq-closure law rows p u is) ((one_value-leq law e w u).1 k))

  pub only_forced : (rows : List (Row A)) (p u d : Cell A) (e : ℕ) (w v : A) → closure (eq_by_cmp cmp) rows p ≡ Some u
      → depth p ≤ e → e < length p → slice_get u e ≡ Some (Some w)
      → closure (eq_by_cmp cmp) rows (with_value p e v) ≡ Some d → v ≡ w
  only_forced rows p u d e w v is h l k m =
      let above = closure_mono law rows p (with_value p e v) u d (leq-with_value law p e v h) is m in
      let a : slice_get d e ≡ Some (Some w)
      = (one_value-leq law e w d).0 (leq_trans law (one_value e w) u d ((one_value-leq law e w u).1 k) above) in
      let b = and_parts (leq (eq_by_cmp cmp) p d) (leq (eq_by_cmp cmp) (one_value e v) d)
      (sym (with_value-leq law p d e v h l) ∙ leq-closure law rows (with_value p e v) d m) in
      let c : slice_get d e ≡ Some (Some v) = (one_value-leq law e v d).0 b.1 in
      cc

  module _ (measures : ℕ) (rows : List (Row A)) (p u : Cell A) (is : closure (eq_by_cmp cmp) rows p ≡ Some u)
      (front : cell_prefix (depth p) u ≡ p) where
    pub long : length p ≡ length u
    long = sym (ap length front) ∙ length-cell_prefix (depth p) u

    abbrev made_forced : Option (Option A) → Option (Edge A (Cell A))
    made_forced o = option_and_then
        (λ entry. option_map (λ v. record {
          dim = next_value cmp (depth p) u;
          value = v;
          target
              = with_value p (next_value cmp (depth p) u) v;
        }) entry) o

    at_next : (w : A) → slice_get u (next_value cmp (depth p) u) ≡ Some (Some w)
        → upto u (next_value cmp (depth p) u) ≡ with_value p (next_value cmp (depth p) u) w
    at_next w h = upto-entry u (next_value cmp (depth p) u) w h
        ∙ ap (λ x. with_value x (next_value cmp (depth p) u) w) (cell_prefix-next cmp (depth p) u ∙ front)

    forced-is : (x : Edge A (Cell A)) → Among x (as_list cmp (forced_child cmp p u (next_value cmp (depth p) u)))
        → IsLabel cmp rows p (next_value cmp (depth p) u) x
    forced-is x m = go (slice_get u (next_value cmp (depth p) u)) refl m
      where
        go : (o : Option (Option A)) → slice_get u (next_value cmp (depth p) u) ≡ o
            → Among x (as_list cmp (made_forced o)) → IsLabel cmp rows p (next_value cmp (depth p) u) x
        go None e k = absurd k
        go (Some None) e k = absurd k
        go (Some (Some w)) e k = elim k [
          | inl same ↦ subst (λ y. IsLabel cmp rows p (next_value cmp (depth p) u) y) (sym same) (record {
            place = record { behind = next-ge cmp (depth p) u; before = omega arith; within = inside e };
            leads = ap (option_map (λ w. upto w (next_value cmp (depth p) u)))
                (forced_lead rows p u _ w is (next-ge cmp (depth p) u) (inside e) e) ∙ ap (λ c. Some c) (at_next w e);
          })
          | inr none ↦ absurd none
        ]
          where
            inside : slice_get u (next_value cmp (depth p) u) ≡ Some (Some w) → next_value cmp (depth p) u < length p
            inside e = omega (arith, slice_get_within u (next_value cmp (depth p) u) (Some w) e, long)

    pub edges-are : (x : Edge A (Cell A)) → Among x (record_of cmp measures rows p u).edges
        ↔ IsLabel cmp rows p (next_value cmp (depth p) u) x
    edges-are x = (
      λ m. elim ((among_append x
          (flat_map (edges_in cmp rows p) (range_with_len (depth p) (next_value cmp (depth p) u - depth p)))
          (as_list cmp (forced_child cmp p u (next_value cmp (depth p) u)))).0 m) [
            | inl a ↦ let r : (i : ℕ) × Among i (range_with_len (depth p) (next_value cmp (depth p) u - depth p))
                × Among x (edges_in cmp rows p i) = (among_flat_map (edges_in cmp rows p) x _).0 a in
                inner r.0 ((among_range r.0 _ _).0 r.1) r.2
            | inr b ↦ forced-is x b
          ],
      λ h. elim (first_of_range (next_value cmp (depth p) u) x.dim h.place.before) [
        | inl e ↦ (among_append x _ _).1
            (inr (at_end h (sym e) (next-entry cmp (depth p) u (omega (arith, e, h.place.within, long)))))
        | inr k ↦ (among_append x _ _).1 (inl (early h k))
      ],
    )
      where
        inner : (i : ℕ) → (depth p ≤ i) × (i < depth p + (next_value cmp (depth p) u - depth p))
            → Among x (edges_in cmp rows p i) → IsLabel cmp rows p (next_value cmp (depth p) u) x
        inner i b a =
            let ge = next-ge cmp (depth p) u in
            let le = next-le cmp (depth p) u (omega (arith, long, depth-le p)) in
            let l : i < length p = omega (arith, b.1, ge, le, long) in
            let e = (edges_in-are rows p i x b.0 l).0 a in
            record {
              place = record {
                behind = omega (arith, e.0, b.0);
                before = omega (arith, e.0, b.1, ge);
                within
                    = omega (arith, e.0, l);
              };
              leads = subst (λ j. target_of_label (eq_by_cmp cmp) rows p j x.value ≡ Some x.target) (sym e.0) e.1;
            }

        early : IsLabel cmp rows p (next_value cmp (depth p) u) x → x.dim + 1 ≤ next_value cmp (depth p) u
            → Among x (flat_map (edges_in cmp rows p) (range_with_len (depth p) (next_value cmp (depth p) u - depth p)))
        early h k = (among_flat_map (edges_in cmp rows p) x _).1 (
          x.dim,
          (among_range x.dim _ _).1 (h.place.behind, omega (arith, h.place.behind, k)),
          (edges_in-are rows p x.dim x h.place.behind h.place.within).1 (refl, h.leads),
        )

        at_end : IsLabel cmp rows p (next_value cmp (depth p) u) x → x.dim ≡ next_value cmp (depth p) u → (w : A)
            × (slice_get u (next_value cmp (depth p) u) ≡ Some (Some w))
            → Among x (as_list cmp (forced_child cmp p u (next_value cmp (depth p) u)))
        at_end h d (w, k) = subst (λ o. Among x (as_list cmp (made_forced o))) (sym k)
            (inl (found (closure (eq_by_cmp cmp) rows (with_value p x.dim x.value)) refl))
          where
            entry : slice_get u x.dim ≡ Some (Some w)
            entry = ap (λ j. slice_get u j) d ∙ k

            found : (o : Option (Cell A)) → closure (eq_by_cmp cmp) rows (with_value p x.dim x.value) ≡ o
                → x ≡ record {
                  dim = next_value cmp (depth p) u;
                  value = w;
                  target
                      = with_value p (next_value cmp (depth p) u) w;
                }
            found None e = let bad : None ≡ Some x.target = sym (ap (option_map (λ c. upto c x.dim)) e) ∙ h.leads in cc
            found (Some c) e =
                let v : x.value ≡ w = only_forced rows p u c x.dim w x.value is h.place.behind h.place.within entry e in
                let closed : Some c ≡ Some u = sym e ∙ ap (λ y. closure (eq_by_cmp cmp) rows (with_value p x.dim y)) v
                ∙ forced_lead rows p u x.dim w is h.place.behind h.place.within entry in
                let t : Some (upto u (next_value cmp (depth p) u)) ≡ Some x.target
                = sym (ap (option_map (λ c. upto c (next_value cmp (depth p) u))) (e ∙ closed))
                ∙ ap (λ j. option_map (λ c. upto c j) (closure (eq_by_cmp cmp) rows (with_value p x.dim x.value)))
                (sym d) ∙ h.leads in
                let target : x.target ≡ with_value p (next_value cmp (depth p) u) w = some_same (sym t) ∙ at_next w k in
                edge_same d v target
              where
                edge_same : x.dim ≡ next_value cmp (depth p) u → x.value ≡ w
                    → x.target ≡ with_value p (next_value cmp (depth p) u) w
                    → x ≡ record {
                      dim = next_value cmp (depth p) u;
                      value = w;
                      target
                          = with_value p (next_value cmp (depth p) u) w;
                    }
                edge_same a b c = λ i. record { dim = a i; value = b i; target = c i }
