-- A walk from the root comes to the node of the closure.
use Rattle.std.proofs.Common.{◌≡◌, ◌≢◌, ℕ, zero, suc, ◌≤◌, ◌<◌, true, Option, Some, None, List, [], ◌∷◌, length, drop, replicate, slice_get}
use Rattle.std.proofs.Common.{refl, sym, ap, subst, ◌∙◌, arith}
use Rattle.std.specs.declared.cmp.Ordering.{Ordering}
use Rattle.std.specs.Ordering.{eq_by_cmp}
use Rattle.std.specs.Cmp.{IsTotalOrder}
use Rattle.std.specs.FinMap as map
use Rattle.std.specs.List.{AllByRecursion}
use Rattle.std.specs.Option.{option_map, option_and_then}
use Rattle.cube_defs.specs.Cell.{Cell, cell_prefix}
use Rattle.cube_defs.specs.Rows.{Row, closure, is_node}
use Rattle.cube_defs.specs.Tree.{Node, Tree, IsCanonical, node_of, cell_at, renamed}
use Rattle.cube_laws.proofs.CallerLemmas.{IsEquality, cell_prefix-leq, cell_prefix_zero, depth-le, closure_some, closure_idem, is_class-is}
use Rattle.cube_laws.proofs.CallerLemmas.{closure_length, class_prefixes, node_closed, equality_by}
use Rattle.tree_laws.specs.Labels.{record_of}
use Rattle.tree_laws.specs.Walk.{walk_on, walk, closure_prefix}
use Rattle.tree_laws.proofs.Lists.{cell_record, some_same}
use Rattle.tree_laws.proofs.Prefixes.{cell_prefix-beyond}
use Rattle.tree_laws.proofs.Steps.{step, prefix_closure, walk_on-renamed}

module _ {X : Type 0} where
  dropped : (c : List X) (i : ℕ) (a : X) (s : List X) → drop i c ≡ a ∷ s → (slice_get c i ≡ Some a)
      × (drop (suc i) c ≡ s) × (i < length c)
  dropped [] zero a s h = cc
  dropped [] (suc i) a s h = cc
  dropped (x ∷ c) zero a s h = let e : x ≡ a = cc in let f : c ≡ s = cc in (ap (λ y. Some y) e, f, omega arith)
  dropped (x ∷ c) (suc i) a s h = let r = dropped c i a s h in (r.0, r.1, omega (arith, r.2))

  drop_end : (c : List X) (i : ℕ) → drop i c ≡ [] → length c ≤ i
  drop_end [] i h = omega arith
  drop_end (x ∷ c) zero h = cc
  drop_end (x ∷ c) (suc i) h = let r = drop_end c i h in omega arith

module _ {A : Type 0} {cmp : A → A → Ordering} (total : IsTotalOrder cmp) (anti : map.IsAntisymmetric cmp)
    (dims measures : ℕ) (rows : List (Row A)) (wide : AllByRecursion (λ row. length row.tuple ≡ dims) rows)
    (tree : Tree A) (canonical : IsCanonical cmp measures rows tree) where
  law : IsEquality (eq_by_cmp cmp)
  law = equality_by total anti

  -- the record of a node, whose closure is u
  pub record_read : (k : ℕ) (n : Node A ℕ) (u : Cell A) → map.get tree k ≡ Some n
      → closure (eq_by_cmp cmp) rows n.cell ≡ Some u
      → renamed (cell_at tree) n ≡ renamed (λ c. Some c) (record_of cmp measures rows n.cell u)
  record_read k n u g e =
      let r : Some (renamed (cell_at tree) n) ≡ option_map (renamed (λ c. Some c)) (node_of cmp measures rows n.cell)
      = (canonical.each k n g).1 in
      let s : option_map (renamed (λ c. Some c)) (node_of cmp measures rows n.cell)
      ≡ Some (renamed (λ c. Some c) (record_of cmp measures rows n.cell u))
      = ap (λ o. option_map (renamed (λ c. Some c)) (option_map (λ u. record_of cmp measures rows n.cell u) o)) e in
      cc

  module _ (k : ℕ) (n : Node A ℕ) (c u : Cell A) (i : ℕ) (g : map.get tree k ≡ Some n)
      (is : closure (eq_by_cmp cmp) rows (cell_prefix i c) ≡ Some u) (cell : n.cell ≡ cell_prefix i u)
      (lc : i < length c) (lu : i < length u) where
    record_is : renamed (cell_at tree) n ≡ renamed (λ c. Some c) (record_of cmp measures rows (cell_prefix i u) u)
    record_is =
        subst (λ p. renamed (cell_at tree) n ≡ renamed (λ c. Some c) (record_of cmp measures rows p u)) cell
        (record_read k n u g (ap (closure (eq_by_cmp cmp) rows) cell
        ∙ prefix_closure total anti measures rows c u i is lc lu))

    number_is : cell_at tree k ≡ Some (cell_prefix i u)
    number_is = ap (option_map (λ n. n.cell)) g ∙ ap (λ x. Some x) cell

    stepped : (a : Option A) → slice_get c i ≡ Some a
        → option_map (cell_at tree) (walk_on (eq_by_cmp cmp) k n i a) ≡ option_map (λ c. Some c)
        (closure_prefix (eq_by_cmp cmp) rows c (suc i))
    stepped a q =
        sym (walk_on-renamed law (cell_at tree) k n i a)
        ∙ ap (λ l. walk_on (eq_by_cmp cmp) l (renamed (cell_at tree) n) i a) number_is
        ∙ ap (λ m. walk_on (eq_by_cmp cmp) (Some (cell_prefix i u)) m i a) record_is
        ∙ walk_on-renamed law (λ c. Some c) (cell_prefix i u) (record_of cmp measures rows (cell_prefix i u) u) i a
        ∙ ap (option_map (λ c. Some c)) (step total anti measures rows c u i is lc lu a q)

  -- one dimension on: from the beginning of c's closure to the prefix that is one longer
  pub walk_step : (k : ℕ) (n : Node A ℕ) (c : Cell A) (i : ℕ) (a : Option A) → length c ≡ dims → slice_get c i ≡ Some a
      → i < dims → map.get tree k ≡ Some n → Some n.cell ≡ closure_prefix (eq_by_cmp cmp) rows c i
      → option_map (cell_at tree) (walk_on (eq_by_cmp cmp) k n i a) ≡ option_map (λ c. Some c)
      (closure_prefix (eq_by_cmp cmp) rows c (suc i))
  walk_step k n c i a long q l g at = go (closure (eq_by_cmp cmp) rows (cell_prefix i c)) refl at
    where
      go : (o : Option (Cell A)) → closure (eq_by_cmp cmp) rows (cell_prefix i c) ≡ o
          → Some n.cell ≡ option_map (cell_prefix i) o
          → option_map (cell_at tree) (walk_on (eq_by_cmp cmp) k n i a) ≡ option_map (λ c. Some c)
          (closure_prefix (eq_by_cmp cmp) rows c (suc i))
      go None is at = cc
      go (Some u) is at = let wide_u : length u ≡ dims
          = closure_length (eq_by_cmp cmp) dims (cell_prefix i c) u rows wide is in
          stepped k n c u i g is (some_same at) (omega arith) (omega arith) a q

  -- at the end the prefix is all
  walk_end : (c : Cell A) (i : ℕ) → length c ≡ dims → dims ≤ i
      → closure_prefix (eq_by_cmp cmp) rows c i ≡ closure (eq_by_cmp cmp) rows c
  walk_end c i long l = ap (λ d. option_map (cell_prefix i) (closure (eq_by_cmp cmp) rows d))
      (cell_prefix-beyond i c (omega (arith, depth-le c))) ∙ go (closure (eq_by_cmp cmp) rows c) refl
    where
      go : (o : Option (Cell A)) → closure (eq_by_cmp cmp) rows c ≡ o → option_map (cell_prefix i) o ≡ o
      go None e = refl
      go (Some u) e = let wide_u : length u ≡ dims = closure_length (eq_by_cmp cmp) dims c u rows wide e in
          ap (λ x. Some x) (cell_prefix-beyond i u (omega (arith, depth-le u)))

  -- where a prefix covers nothing, the cell covers nothing
  walk_stops : (c : Cell A) (i : ℕ) → closure_prefix (eq_by_cmp cmp) rows c i ≡ None
      → closure (eq_by_cmp cmp) rows c ≡ None
  walk_stops c i e = go (closure (eq_by_cmp cmp) rows c) refl
    where
      go : (o : Option (Cell A)) → closure (eq_by_cmp cmp) rows c ≡ o → closure (eq_by_cmp cmp) rows c ≡ None
      go None q = q
      go (Some u) q = let r : (w : Cell A) × (closure (eq_by_cmp cmp) rows (cell_prefix i c) ≡ Some w)
          = closure_some law rows (cell_prefix i c) c u (cell_prefix-leq law i c) q in
          let s : closure_prefix (eq_by_cmp cmp) rows c i ≡ Some (cell_prefix i r.0)
          = ap (option_map (cell_prefix i)) r.1 in
          cc

  -- from the beginning that is i dimensions long to the closure
  walk_rest : (s c : Cell A) (i k : ℕ) (p : Cell A) → length c ≡ dims → drop i c ≡ s → cell_at tree k ≡ Some p
      → closure_prefix (eq_by_cmp cmp) rows c i ≡ Some p
      → option_map (cell_at tree) (walk (eq_by_cmp cmp) tree s k i) ≡ option_map (λ u. Some u)
      (closure (eq_by_cmp cmp) rows c)
  walk_rest [] c i k p long d at f = ap (λ x. Some x) at
      ∙ ap (option_map (λ u. Some u)) (sym f ∙ walk_end c i long (omega (arith, drop_end c i d, long)))
  walk_rest (a ∷ s) c i k p long d at f
      = found (λ l x e q h. walk_rest s c (suc i) l x long e q h) (map.get tree k) refl at
    where
      found : ((l : ℕ) (x : Cell A) → drop (suc i) c ≡ s → cell_at tree l ≡ Some x
          → closure_prefix (eq_by_cmp cmp) rows c (suc i) ≡ Some x
          → option_map (cell_at tree) (walk (eq_by_cmp cmp) tree s l (suc i)) ≡ option_map (λ u. Some u)
          (closure (eq_by_cmp cmp) rows c))
          → (r : Option (Node A ℕ)) → map.get tree k ≡ r → option_map (λ n. n.cell) r ≡ Some p
          → option_map (cell_at tree)
          (option_and_then (λ n. option_and_then (λ l. walk (eq_by_cmp cmp) tree s l (suc i))
          (walk_on (eq_by_cmp cmp) k n i a)) r) ≡ option_map (λ u. Some u) (closure (eq_by_cmp cmp) rows c)
      found more None g at = cc
      found more (Some n) g at
          = go (walk_on (eq_by_cmp cmp) k n i a) (closure_prefix (eq_by_cmp cmp) rows c (suc i)) refl refl
          (walk_step k n c i a long e.0 (omega (arith, e.2, long)) g (at ∙ sym f))
        where
          e : (slice_get c i ≡ Some a) × (drop (suc i) c ≡ s) × (i < length c)
          e = dropped c i a s d

          go : (o : Option ℕ) (q : Option (Cell A)) → walk_on (eq_by_cmp cmp) k n i a ≡ o
              → closure_prefix (eq_by_cmp cmp) rows c (suc i) ≡ q
              → option_map (cell_at tree) o ≡ option_map (λ c. Some c) q
              → option_map (cell_at tree) (option_and_then (λ l. walk (eq_by_cmp cmp) tree s l (suc i)) o)
              ≡ option_map (λ u. Some u) (closure (eq_by_cmp cmp) rows c)
          go None None w h j = ap (option_map (λ u. Some u)) (sym (walk_stops c (suc i) h))
          go None (Some x) w h j = cc
          go (Some l) None w h j = cc
          go (Some l) (Some x) w h j = more l x e.1 (some_same j) h

  root : (c : Cell A) → length c ≡ dims → cell_prefix 0 c ≡ replicate dims None
  root c long = cell_prefix_zero c ∙ ap (λ m. replicate m None) long

  root_prefix : (c : Cell A) → length c ≡ dims → (u : Cell A) → closure (eq_by_cmp cmp) rows (cell_prefix 0 c) ≡ Some u
      → closure_prefix (eq_by_cmp cmp) rows c 0 ≡ Some (replicate dims None)
  root_prefix c long u e = ap (option_map (cell_prefix 0)) e
      ∙ ap (λ x. Some x) (root u (closure_length (eq_by_cmp cmp) dims (cell_prefix 0 c) u rows wide e))

  -- from the root's number
  pub walk_found : (k : ℕ) (c : Cell A) → length c ≡ dims → cell_at tree k ≡ Some (replicate dims None)
      → option_map (cell_at tree) (walk (eq_by_cmp cmp) tree c k 0) ≡ option_map (λ u. Some u)
      (closure (eq_by_cmp cmp) rows c)
  walk_found k c long at =
      let n = cell_record tree k (replicate dims None) at in
      let u = node_closed law rows (cell_prefix 0 c)
      (subst (λ p. is_node (eq_by_cmp cmp) rows p ≡ true) (n.2 ∙ sym (root c long)) (canonical.each k n.0 n.1).0) in
      walk_rest c c 0 k (replicate dims None) long refl at (root_prefix c long u.0 u.1)

  -- without a root nothing is covered
  pub no_root : (c : Cell A) → length c ≡ dims → ((k : ℕ) → cell_at tree k ≢ Some (replicate dims None))
      → closure (eq_by_cmp cmp) rows c ≡ None
  no_root c long none = go (closure (eq_by_cmp cmp) rows c) refl
    where
      go : (o : Option (Cell A)) → closure (eq_by_cmp cmp) rows c ≡ o → closure (eq_by_cmp cmp) rows c ≡ None
      go None q = q
      go (Some u) q =
          let wide_u : length u ≡ dims = closure_length (eq_by_cmp cmp) dims c u rows wide q in
          let node : is_node (eq_by_cmp cmp) rows (cell_prefix 0 u) ≡ true
          = class_prefixes law rows 0 u ((is_class-is law rows u).1 (closure_idem law rows c u q)) in
          let r : (k : ℕ) × (cell_at tree k ≡ Some (cell_prefix 0 u)) = canonical.all (cell_prefix 0 u) node in
          absurd (none r.0 (r.1 ∙ ap (λ x. Some x) (root u wide_u)))
