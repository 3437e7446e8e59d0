-- Where a value leads that is asked of a node: the edges say it, also where the child is forced.
use Rattle.std.proofs.Common.{◌≡◌, ◌≢◌, inl, inr, ℕ, ◌-◌, Bool, true, false, cond, ◌&&◌, Option, Some, None, List, [], ◌∷◌, ◌++◌}
use Rattle.std.proofs.Common.{flat_map, slice_get, nat_eq, eqb-true, refl, sym, ap, ◌∙◌, arith}
use Rattle.std.proofs.lemmas.Bool.{cond-false, false_from_ne_true}
use Rattle.std.specs.declared.cmp.Ordering.{Ordering}
use Rattle.std.specs.Cmp.{nat_cmp_total}
use Rattle.std.specs.FinMap as numbers
use Rattle.std.specs.List.{range_with_len}
use Rattle.std.specs.Option.{option_map, option_and_then}
use Rattle.std.specs.Ordering.{nat_cmp, eq_by_cmp}
use Rattle.cube_defs.specs.Cell.{Cell, depth, upto, with_value}
use Rattle.cube_defs.specs.Rows.{Row, closure}
use Rattle.cube_defs.specs.Tree.{Edge, Node, Tree, IsCanonical, as_list, cell_at, edges_in, forced_child, next_value, node_with}
use Rattle.cube_defs.specs.Tree.{renamed, values_at}
use Rattle.cube_laws.specs.Lists.{Among}
use Rattle.cube_laws.proofs.CallerLemmas.{IsEquality, among_filter_map, among_flat_map, equality_by}
use Rattle.tree_laws.specs.Labels.{record_of}
use Rattle.tree_laws.specs.Walk.{by_forced, target_at, walk_on}
use Rattle.tree_laws.proofs.CallerLemmas.{among_range, some_same, target-renamed, walk_on-renamed}

-- edges in other dimensions don't matter
skipped : {A T : Type 0} (eq : A → A → Bool) (i : ℕ) (v : A) (xs ys : List (Edge A T))
    → ((x : Edge A T) → Among x xs → x.dim ≢ i) → target_at eq i v (xs ++ ys) ≡ target_at eq i v ys
skipped eq i v [] ys f = refl
skipped eq i v (x ∷ xs) ys f =
    cond-false _ _ _ (ap (λ b. b && eq x.value v)
    (false_from_ne_true (nat_eq x.dim i) (λ h. f x (inl refl) (eqb-true x.dim i h))))
    ∙ skipped eq i v xs ys (λ y m. f y (inr m))

module _ {A : Type 0} (cmp : A → A → Ordering) (measures : ℕ) (rows : List (Row A)) (p u : Cell A) (e : ℕ) where
  before : List (Edge A (Cell A))
  before = flat_map (edges_in cmp rows p) (range_with_len (depth p) (e - depth p))

  in_dim : (j : ℕ) (x : Edge A (Cell A)) → Among x (edges_in cmp rows p j) → x.dim ≡ j
  in_dim j x m =
      let r : (v : A) × Among v (values_at cmp rows p j)
      × (option_map (λ u. record { dim = j; value = v; target = upto u j })
      (closure (eq_by_cmp cmp) rows (with_value p j v)) ≡ Some x)
      = (among_filter_map _ x (values_at cmp rows p j)).0 m in
      go r.0 (closure (eq_by_cmp cmp) rows (with_value p j r.0)) r.2
    where
      go : (v : A) (o : Option (Cell A)) → option_map (λ u. record { dim = j; value = v; target = upto u j }) o ≡ Some x
          → x.dim ≡ j
      go v None k = cc
      go v (Some w) k = ap (λ y. y.dim) (sym (some_same k))

  elsewhere : (x : Edge A (Cell A)) → Among x before → x.dim ≢ e
  unfolding before
  elsewhere x m is =
      let r : (j : ℕ) × Among j (range_with_len (depth p) (e - depth p)) × Among x (edges_in cmp rows p j)
      = (among_flat_map (edges_in cmp rows p) x (range_with_len (depth p) (e - depth p))).0 m in
      let b = (among_range r.0 (depth p) (e - depth p)).0 r.1 in
      let d = in_dim r.0 x r.2 in
      omega (arith, b.0, b.1, d, is)

  forced_dim : (o : Option (Option A)) (x : Edge A (Cell A))
      → option_and_then
      (λ entry. option_map (λ v. record { dim = e; value = v; target = with_value p e v }) entry) o ≡ Some x → x.dim ≡ e
  forced_dim None x k = cc
  forced_dim (Some None) x k = cc
  forced_dim (Some (Some w)) x k = ap (λ y. y.dim) (sym (some_same k))

  pub record_asked : (k : Cell A) (i : ℕ) (v : A)
      → walk_on (eq_by_cmp cmp) k (node_with cmp measures rows p u e) i (Some v)
      ≡ target_at (eq_by_cmp cmp) i v (node_with cmp measures rows p u e).edges
  unfolding before
  record_asked k i v = go (forced_child cmp p u e) refl
    where
      go : (o : Option (Edge A (Cell A))) → forced_child cmp p u e ≡ o
          → by_forced (eq_by_cmp cmp) k (node_with cmp measures rows p u e) i (Some v) o
          ≡ target_at (eq_by_cmp cmp) i v (node_with cmp measures rows p u e).edges
      go None is = refl
      go (Some x) is = choose (nat_eq x.dim i) refl
        where
          at : x.dim ≡ e
          at = forced_dim (slice_get u e) x is

          choose : (b : Bool) → nat_eq x.dim i ≡ b
              → cond b (cond (eq_by_cmp cmp x.value v) (Some x.target) None)
              (target_at (eq_by_cmp cmp) i v (node_with cmp measures rows p u e).edges)
              ≡ target_at (eq_by_cmp cmp) i v (node_with cmp measures rows p u e).edges
          choose false h = refl
          choose true h =
              let here : e ≡ i = sym at ∙ eqb-true x.dim i h in
              sym (ap (λ o. target_at (eq_by_cmp cmp) i v (before ++ as_list cmp o)) is
              ∙ skipped (eq_by_cmp cmp) i v before (x ∷ []) (λ y m d. elsewhere y m (d ∙ sym here))
              ∙ ap (λ b. cond (b && eq_by_cmp cmp x.value v) (Some x.target) None) h)

law : IsEquality (eq_by_cmp nat_cmp)
law = equality_by nat_cmp_total numbers.nat_cmp-IsAntisymmetric

module _ (measures : ℕ) (rows : List (Row ℕ)) (tree : Tree ℕ) (canonical : IsCanonical nat_cmp measures rows tree)
    (k : ℕ) (n : Node ℕ ℕ) (is : numbers.get tree k ≡ Some n) where
  -- the edge with an asked value leads where the walk goes on
  pub asked : (i v : ℕ)
      → option_map (cell_at tree) (target_at (eq_by_cmp nat_cmp) i v n.edges)
      ≡ option_map (cell_at tree) (walk_on (eq_by_cmp nat_cmp) k n i (Some v))
  asked i v = go (closure (eq_by_cmp nat_cmp) rows n.cell) (canonical.each k n is).1
    where
      go : (o : Option (Cell ℕ))
          → Some (renamed (cell_at tree) n)
          ≡ option_map (renamed (λ c. Some c)) (option_map (λ u. record_of nat_cmp measures rows n.cell u) o)
          → option_map (cell_at tree) (target_at (eq_by_cmp nat_cmp) i v n.edges)
          ≡ option_map (cell_at tree) (walk_on (eq_by_cmp nat_cmp) k n i (Some v))
      go None e = cc
      go (Some u) e =
          let made : Node ℕ (Cell ℕ) = record_of nat_cmp measures rows n.cell u in
          let same : renamed (cell_at tree) n ≡ renamed (λ c. Some c) (record_of nat_cmp measures rows n.cell u)
          = some_same e in
          let number : cell_at tree k ≡ Some n.cell = ap (option_map (λ m. m.cell)) is in
          sym (target-renamed law (cell_at tree) i v n.edges)
          ∙ ap (λ m. target_at (eq_by_cmp nat_cmp) i v m.edges) same
          ∙ target-renamed law (λ c. Some c) i v (record_of nat_cmp measures rows n.cell u).edges
          ∙ ap (option_map (λ c. Some c)) (sym (record_asked nat_cmp measures rows n.cell u
          (next_value nat_cmp (depth n.cell) u) n.cell i v))
          ∙ sym (walk_on-renamed law (λ c. Some c) n.cell (record_of nat_cmp measures rows n.cell u) i (Some v))
          ∙ ap (λ m. walk_on (eq_by_cmp nat_cmp) (Some n.cell) m i (Some v)) (sym same)
          ∙ ap (λ l. walk_on (eq_by_cmp nat_cmp) l (renamed (cell_at tree) n) i (Some v)) (sym number)
          ∙ walk_on-renamed law (cell_at tree) k n i (Some v)
