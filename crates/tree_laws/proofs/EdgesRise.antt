-- The edges of a record rise by dimension and value.
use Rattle.std.proofs.Common.{◌≡◌, ℕ, zero, suc, ◌+◌, ◌-◌, ◌<◌, Option, Some, None, List, [], ◌∷◌, ◌++◌, slice_get, flat_map, filter_map}
use Rattle.std.proofs.Common.{refl, sym, ap, ap₂, ◌∙◌, inl, inr, arith}
use Rattle.std.specs.List.Sorted.{IsStrictlySortedBy}
use Rattle.std.specs.declared.cmp.Ordering.{Ordering}
use Rattle.std.specs.declared.cmp.Ordering.TheVariants.{Less, Equal}
use Rattle.std.specs.Ordering.{eq_by_cmp, ordering_then}
use Rattle.std.specs.Cmp.{IsTotalOrder, tied_itself, nat_cmp_total, nat_cmp_is}
use Rattle.std.specs.FinMap.{IsAntisymmetric}
use Rattle.std.specs.List.{range_with_len, cons_option}
use Rattle.std.specs.Option.{option_map, option_and_then}
use Rattle.cube_defs.specs.Cell.{Cell, depth, upto, with_value}
use Rattle.cube_defs.specs.Rows.{Row, cov, closure}
use Rattle.cube_defs.specs.Tree.{Edge, node_with, edges_in, values_at, as_list, forced_child}
use Rattle.cube_laws.specs.Lists.{Among}
use Rattle.cube_laws.proofs.CallerLemmas.{among_flat_map, among_filter_map, all_at, all_from, all_append, rises_distinct}
use Rattle.tree_laws.specs.Edges.{edge_cmp}
use Rattle.tree_laws.proofs.Lists.{some_same, among_range}
use Rattle.tree_laws.proofs.Sums.{EachOnce}

module _ {X : Type 0} (cmp : X → X → Ordering) where
  pub rises_append : (xs ys : List X) → IsStrictlySortedBy cmp xs → IsStrictlySortedBy cmp ys
      → ((x y : X) → Among x xs → Among y ys → cmp x y ≡ Less) → IsStrictlySortedBy cmp (xs ++ ys)
  unfolding IsStrictlySortedBy
  rises_append [] ys a b f = b
  rises_append (x ∷ xs) ys a b f
      = (
        all_append (λ y. cmp x y ≡ Less) xs ys a.0 (all_from (λ y. cmp x y ≡ Less) ys (λ y m. f x y (inl refl) m)),
        rises_append xs ys a.1 b (λ y z m k. f y z (inr m) k),
      )

module _ {A : Type 0} {cmp : A → A → Ordering} (total : IsTotalOrder cmp) {T : Type 0} where
  by_dim : (x y : Edge A T) → x.dim < y.dim → edge_cmp cmp x y ≡ Less
  by_dim x y h = ap (λ o. ordering_then o (cmp x.value y.value)) (sym (nat_cmp_is x.dim y.dim Less h))

  by_value : (x y : Edge A T) → x.dim ≡ y.dim → cmp x.value y.value ≡ Less → edge_cmp cmp x y ≡ Less
  by_value x y h k = ap (λ o. ordering_then o (cmp x.value y.value)) (sym (nat_cmp_is x.dim y.dim Equal h)) ∙ k

  edge_tied : (x : Edge A T) → edge_cmp cmp x x ≡ Equal
  edge_tied x = ap₂ ordering_then (tied_itself nat_cmp_total x.dim) (tied_itself total x.value)

  -- so none stands twice
  pub rising_edges_once : (xs : List (Edge A T)) → IsStrictlySortedBy (edge_cmp cmp) xs → EachOnce xs
  unfolding IsStrictlySortedBy
  rising_edges_once [] h = tt
  rising_edges_once (x ∷ xs) h
      = (
        λ m. let less : edge_cmp cmp x x ≡ Less = all_at (λ y. edge_cmp cmp x y ≡ Less) x xs h.0 m in
            let bad : Less ≡ Equal = sym less ∙ edge_tied x in cc,
        rising_edges_once xs h.1,
      )

  -- what is made of a rising list of values, with the same values
  made_rises : (f : A → Option (Edge A T)) (i : ℕ) (vs : List A)
      → ((v : A) (x : Edge A T) → f v ≡ Some x → (x.dim ≡ i) × (x.value ≡ v)) → IsStrictlySortedBy cmp vs
      → IsStrictlySortedBy (edge_cmp cmp) (filter_map f vs)
  unfolding IsStrictlySortedBy
  made_rises f i [] g a = tt
  made_rises f i (v ∷ vs) g a = go (f v) refl (made_rises f i vs g a.1)
    where
      later : (x : Edge A T) → f v ≡ Some x → (y : Edge A T) → Among y (filter_map f vs) → edge_cmp cmp x y ≡ Less
      later x e y m =
          let r : (w : A) × Among w vs × (f w ≡ Some y) = (among_filter_map f y vs).0 m in
          let p = g v x e in
          let q = g r.0 y r.2 in
          by_value x y (p.0 ∙ sym q.0) (ap₂ cmp p.1 q.1 ∙ all_at (λ z. cmp v z ≡ Less) r.0 vs a.0 r.1)

      go : (o : Option (Edge A T)) → f v ≡ o → IsStrictlySortedBy (edge_cmp cmp) (filter_map f vs)
          → IsStrictlySortedBy (edge_cmp cmp) (cons_option o (filter_map f vs))
      go None e m = m
      go (Some x) e m = (all_from (λ y. edge_cmp cmp x y ≡ Less) (filter_map f vs) (later x e), m)

  by_dimension : (f : ℕ → List (Edge A T)) (a n : ℕ) → ((i : ℕ) → IsStrictlySortedBy (edge_cmp cmp) (f i))
      → ((i : ℕ) (x : Edge A T) → Among x (f i) → x.dim ≡ i)
      → IsStrictlySortedBy (edge_cmp cmp) (flat_map f (range_with_len a n))
  unfolding IsStrictlySortedBy
  by_dimension f a zero g d = tt
  by_dimension f a (suc n) g d =
      rises_append (edge_cmp cmp) (f a) (flat_map f (range_with_len (a + 1) n)) (g a) (by_dimension f (a + 1) n g d)
      (λ x y m k.
      let r : (i : ℕ) × Among i (range_with_len (a + 1) n) × Among y (f i)
      = (among_flat_map f y (range_with_len (a + 1) n)).0 k in
      let b = (among_range r.0 (a + 1) n).0 r.1 in
      by_dim x y (omega (arith, d a x m, d r.0 y r.2, b.0)))

module _ {A : Type 0} {cmp : A → A → Ordering} (total : IsTotalOrder cmp) (anti : IsAntisymmetric cmp) (measures : ℕ)
    (rows : List (Row A)) (p u : Cell A) (e : ℕ) where
  in_dim : (i : ℕ) (v : A) (x : Edge A (Cell A))
      → option_map (λ u. record { dim = i; value = v; target = upto u i })
      (closure (eq_by_cmp cmp) rows (with_value p i v)) ≡ Some x → (x.dim ≡ i) × (x.value ≡ v)
  in_dim i v x h = go (closure (eq_by_cmp cmp) rows (with_value p i v)) h
    where
      go : (o : Option (Cell A)) → option_map (λ u. record { dim = i; value = v; target = upto u i }) o ≡ Some x
          → (x.dim ≡ i) × (x.value ≡ v)
      go None k = cc
      go (Some w) k = let is : record { dim = i; value = v; target = upto w i } ≡ x = some_same k in
          (ap (λ y. y.dim) (sym is), ap (λ y. y.value) (sym is))

  dims : (i : ℕ) (x : Edge A (Cell A)) → Among x (edges_in cmp rows p i) → x.dim ≡ i
  dims i x m = let r : (v : A) × Among v (values_at cmp rows p i)
      × (option_map (λ u. record { dim = i; value = v; target = upto u i })
      (closure (eq_by_cmp cmp) rows (with_value p i v)) ≡ Some x)
      = (among_filter_map _ x (values_at cmp rows p i)).0 m in (in_dim i r.0 x r.2).0

  forced_dim : (o : Option (Option A)) (x : Edge A (Cell A))
      → Among x (as_list cmp (option_and_then
      (λ entry. option_map (λ v. record { dim = e; value = v; target = with_value p e v }) entry) o)) → x.dim ≡ e
  forced_dim None x m = absurd m
  forced_dim (Some None) x m = absurd m
  forced_dim (Some (Some w)) x m = elim m [ inl k ↦ ap (λ y. y.dim) k | inr k ↦ absurd k ]

  forced_alone : (o : Option (Edge A (Cell A))) → IsStrictlySortedBy (edge_cmp cmp) (as_list cmp o)
  unfolding IsStrictlySortedBy
  forced_alone None = tt
  forced_alone (Some x) = (tt, tt)

  pub edges_rise : IsStrictlySortedBy (edge_cmp cmp) (node_with cmp measures rows p u e).edges
  unfolding IsStrictlySortedBy
  edges_rise =
      rises_append (edge_cmp cmp) (flat_map (edges_in cmp rows p) (range_with_len (depth p) (e - depth p)))
      (as_list cmp (forced_child cmp p u e))
      (by_dimension total (edges_in cmp rows p) (depth p) (e - depth p)
      (λ i. made_rises total _ i (values_at cmp rows p i) (in_dim i)
      (rises_distinct total anti (filter_map (λ row. slice_get row.tuple i) (cov (eq_by_cmp cmp) rows p)))) dims)
      (forced_alone (forced_child cmp p u e))
      (λ x y m k.
      let r : (i : ℕ) × Among i (range_with_len (depth p) (e - depth p)) × Among x (edges_in cmp rows p i)
      = (among_flat_map (edges_in cmp rows p) x _).0 m in
      let b = (among_range r.0 (depth p) (e - depth p)).0 r.1 in
      by_dim total x y (omega (arith, dims r.0 x r.2, forced_dim (slice_get u e) y k, b.0, b.1)))
