-- Each node but the root is the target of one tree edge.
use Rattle.std.proofs.Common.{◌≡◌, ℕ, zero, suc, ◌+◌, ◌-◌, ◌≤◌, ◌<◌, ◌==◌, Bool, true, false, cond, Option, Some, None, List, [], ◌∷◌, map}
use Rattle.std.proofs.Common.{filter, length, slice_get, replicate, refl, sym, ap, ap₂, subst, ◌∙◌, inl, inr, arith, true≢false, eqb-true}
use Rattle.std.proofs.Common.{eq-eqb}
use Rattle.std.proofs.lemmas.Bool.{cond-true, cond-false, false_from_ne_true}
use Rattle.std.specs.declared.cmp.Ordering.{Ordering}
use Rattle.std.specs.Ordering.{eq_by_cmp}
use Rattle.std.specs.Cmp.{IsTotalOrder, both_ways}
use Rattle.std.specs.FinMap.{IsAntisymmetric}
use Rattle.std.specs.List.{AllByRecursion, count_by, sum_by}
use Rattle.std.specs.Option.{option_map, option_eq}
use Rattle.std.proofs.lemmas.List.Sums.{sum_by-cons, length-filter}
use Rattle.cube_defs.specs.Cell.{Cell, leq, cell_of, cell_eq, depth, depth_with, cell_prefix, with_value}
use Rattle.cube_defs.specs.Rows.{Row, covers, closure, is_node}
use Rattle.cube_defs.specs.Tree.{Edge, Node, node_of, next_value, covered, nodes, tree, tree_edges}
use Rattle.cube_laws.specs.Lists.{Among}
use Rattle.cube_laws.proofs.CallerLemmas.{among_map, map_among, among_filter, filter_among, all_at, IsEquality, leq_trans, leq_refl}
use Rattle.cube_laws.proofs.CallerLemmas.{cell_eq-exact, cell_eq-same, length-cell_prefix, depth-le, cell_prefix_zero, cell_prefix-depth}
use Rattle.cube_laws.proofs.CallerLemmas.{depth-cell_prefix_zero, closure_idem, is_class-is, covered-is, covered_some, closure_length}
use Rattle.cube_laws.proofs.CallerLemmas.{one_value, one_value-leq, nodes-is, class_prefixes, prefix_of_class, node_closed, equality_by}
use Rattle.std.proofs.lemmas.List.{length-map}
use Rattle.tree_laws.specs.Labels.{target_of_label, IsLabel, record_of}
use Rattle.tree_laws.specs.Counts.{is_parent_of}
use Rattle.tree_laws.proofs.Lists.{some_same}
use Rattle.tree_laws.proofs.Prefixes.{depth-cell_prefix-le, with_value-there}
use Rattle.tree_laws.proofs.Leads.{led_from}
use Rattle.tree_laws.proofs.EdgesRise.{rising_edges_once}
use Rattle.tree_laws.proofs.Records.{record_closure, record_rises, record_edges, target_node}
use Rattle.tree_laws.proofs.Children.{lead_above, node_above, child_before, node_prefixes}
use Rattle.tree_laws.proofs.Sums.{EachOnce, sum_same, once_filter, once_map, covered_once, sum_ones, sum_alike, sum_by-map, or_nothing}
use Rattle.tree_laws.proofs.Sums.{sum_by-filter_map}

module _ {X : Type 0} where
  sum_add : (f g : X → ℕ) (xs : List X) → sum_by (λ x. f x + g x) xs ≡ sum_by f xs + sum_by g xs
  sum_add f g [] = refl
  sum_add f g (x ∷ xs) = sum_by-cons (λ y. f y + g y) x xs
      ∙ regroup (f x) (g x) (sum_by f xs) (sum_by g xs) (sum_by (λ y. f y + g y) xs) (sum_add f g xs)
      ∙ ap₂ (λ a b. a + b) (sym (sum_by-cons f x xs)) (sym (sum_by-cons g x xs))
    where
      regroup : (a b m n s : ℕ) → s ≡ m + n → (a + b) + s ≡ (a + m) + (b + n)
      regroup a b m n s e = omega arith

  sum_zero : (ys : List X) → sum_by (λ y. 0) ys ≡ 0
  sum_zero [] = refl
  sum_zero (y ∷ ys) = sum_by-cons (λ y. 0) y ys ∙ omega (arith, sum_zero ys)

sum_swap : {X Y : Type 0} (f : X → Y → ℕ) (xs : List X) (ys : List Y)
    → sum_by (λ x. sum_by (f x) ys) xs ≡ sum_by (λ y. sum_by (λ x. f x y) xs) ys
sum_swap f [] ys = sym (sum_zero ys)
sum_swap f (x ∷ xs) ys =
    sum_by-cons (λ z. sum_by (f z) ys) x xs ∙ ap (λ n. sum_by (f x) ys + n) (sum_swap f xs ys)
    ∙ sym (sum_add (f x) (λ y. sum_by (λ z. f z y) xs) ys)
    ∙ sum_alike (λ y. f x y + sum_by (λ z. f z y) xs) (λ y. sum_by (λ z. f z y) (x ∷ xs)) ys
    (λ y m. sym (sum_by-cons (λ z. f z y) x xs))

-- a value stands no deeper than the cell
depth-value : {A : Type 0} (c : Cell A) (i : ℕ) (v : A) → slice_get c i ≡ Some (Some v) → suc i ≤ depth c
depth-value [] i v h = cc
depth-value (None ∷ c) zero v h = cc
depth-value (Some w ∷ c) zero v h = omega arith
depth-value {A = A} (e ∷ c) (suc i) v h = deep e (depth c) (depth-value c i v h)
  where
    deep : (e : Option A) (n : ℕ) → suc i ≤ n → suc (suc i) ≤ depth_with e n
    deep None zero l = absurd (omega arith)
    deep None (suc n) l = omega arith
    deep (Some w) n l = omega arith

module _ {A : Type 0} {eq : A → A → Bool} (law : IsEquality eq) where
  -- among cells that stand once each, one is the one
  no_hit : (q : Cell A) (xs : List (Cell A)) → (Among q xs → ⊥) → sum_by (λ p. cond (cell_eq eq q p) 1 0) xs ≡ 0
  no_hit q [] h = refl
  no_hit q (x ∷ xs) h =
      sum_by-cons (λ p. cond (cell_eq eq q p) 1 0) x xs
      ∙ ap₂ (λ a b. a + b) (cond-false (cell_eq eq q x) 1 0
      (false_from_ne_true _ (λ t. h (inl (cell_eq-exact law q x t))))) (no_hit q xs (λ m. h (inr m)))

  one_hit : (q : Cell A) (xs : List (Cell A)) → EachOnce xs → Among q xs
      → sum_by (λ p. cond (cell_eq eq q p) 1 0) xs ≡ 1
  one_hit q [] o m = absurd m
  one_hit q (x ∷ xs) o m = sum_by-cons (λ p. cond (cell_eq eq q p) 1 0) x xs
      ∙ go (one_hit q xs o.1) (cell_eq eq q x) refl m
    where
      go : (Among q xs → sum_by (λ p. cond (cell_eq eq q p) 1 0) xs ≡ 1) → (b : Bool) → cell_eq eq q x ≡ b
          → Among q (x ∷ xs) → cond b 1 0 + sum_by (λ p. cond (cell_eq eq q p) 1 0) xs ≡ 1
      go more true e k = let is : q ≡ x = cell_eq-exact law q x e in
          omega (arith, no_hit q xs (λ z. o.0 (subst (λ y. Among y xs) is z)))
      go more false e (inl s)
          = absurd (true≢false (sym (subst (λ y. cell_eq eq q y ≡ true) s (cell_eq-same law q)) ∙ e))
      go more false e (inr z) = omega (arith, more z)

module _ {A : Type 0} {cmp : A → A → Ordering} (total : IsTotalOrder cmp) (anti : IsAntisymmetric cmp) (dims : ℕ)
    (rows : List (Row A)) (wide : AllByRecursion (λ row. length row.tuple ≡ dims) rows) where
  law : IsEquality (eq_by_cmp cmp)
  law = equality_by total anti

  node_once : EachOnce (nodes cmp rows)
  node_once = once_filter (is_node (eq_by_cmp cmp) rows) (covered cmp rows) (covered_once total anti rows)

  -- a target's last value is its label's
  at_target : (p : Cell A) (e : ℕ) (x : Edge A (Cell A)) → IsLabel cmp rows p e x → (depth x.target ≡ suc x.dim)
      × (slice_get x.target x.dim ≡ Some (Some x.value))
  at_target p e x l =
      let f : (w : Cell A) × (closure (eq_by_cmp cmp) rows (with_value p x.dim x.value) ≡ Some w)
      × (cell_prefix (suc x.dim) w ≡ x.target)
      = led_from law (closure (eq_by_cmp cmp) rows (with_value p x.dim x.value)) x.dim x.target l.leads in
      let one : leq (eq_by_cmp cmp) (one_value x.dim x.value) (with_value p x.dim x.value) ≡ true
      = (one_value-leq law x.dim x.value (with_value p x.dim x.value)).1
      (with_value-there p x.dim x.value l.place.within) in
      let value : slice_get x.target x.dim ≡ Some (Some x.value)
      = (one_value-leq law x.dim x.value x.target).0
      (leq_trans law (one_value x.dim x.value) (with_value p x.dim x.value) x.target one
      (lead_above law rows p x.dim x.value x.target l.place.behind l.place.within l.leads)) in
      let low : depth x.target ≤ suc x.dim
      = subst (λ c. depth c ≤ suc x.dim) f.2 (depth-cell_prefix-le (suc x.dim) f.0) in
      (omega (arith, low, depth-value x.target x.dim x.value value), value)

  module _ (p : Cell A) (n : Node A (Cell A)) (node : is_node (eq_by_cmp cmp) rows p ≡ true)
      (is : node_of cmp 0 rows p ≡ Some n) where
    closed : (u : Cell A) × (closure (eq_by_cmp cmp) rows p ≡ Some u)
    closed = record_closure total anti 0 rows p n is

    label : (x : Edge A (Cell A)) → Among x n.edges → IsLabel cmp rows p (next_value cmp (depth p) closed.0) x
    label x m = (record_edges total anti 0 rows p n node is closed.0 x closed.1).0 m

    -- the edges to children, and the children
    child_edges : List (Edge A (Cell A))
    child_edges = filter (λ x. is_parent_of cmp p (Some x.target)) n.edges

    children : List (Cell A)
    children = filter (λ c. is_parent_of cmp p (Some c)) (nodes cmp rows)

    edge_once : EachOnce child_edges
    unfolding child_edges
    edge_once = once_filter (λ x. is_parent_of cmp p (Some x.target)) n.edges
        (rising_edges_once total n.edges (record_rises total anti 0 rows p n is))

    -- edges with one target are the same
    same_target : (x z : Edge A (Cell A)) → Among x child_edges → Among z child_edges → x.target ≡ z.target → x ≡ z
    unfolding child_edges
    same_target x z m k e =
        let a = at_target p (next_value cmp (depth p) closed.0) x
        (label x (filter_among (λ (y : Edge A (Cell A)). is_parent_of cmp p (Some y.target)) x n.edges m).0) in
        let b = at_target p (next_value cmp (depth p) closed.0) z
        (label z (filter_among (λ (y : Edge A (Cell A)). is_parent_of cmp p (Some y.target)) z n.edges k).0) in
        let dim : x.dim ≡ z.dim = omega (arith, a.0, b.0, ap depth e) in
        let value : x.value ≡ z.value = some_same (some_same (sym a.1 ∙ ap₂ slice_get e dim ∙ b.1)) in
        λ i. record { dim = dim i; value = value i; target = e i }

    to_child : (c : Cell A) → Among c (map (λ x. x.target) child_edges) → Among c children
    unfolding child_edges children
    to_child c m =
        let x : (x : Edge A (Cell A)) × Among x (filter (λ x. is_parent_of cmp p (Some x.target)) n.edges)
        × (c ≡ x.target) = among_map (λ (x : Edge A (Cell A)). x.target) c
        (filter (λ x. is_parent_of cmp p (Some x.target)) n.edges) m in
        let f = filter_among (λ (y : Edge A (Cell A)). is_parent_of cmp p (Some y.target)) x.0 n.edges x.1 in
        subst (λ d. Among d (filter (λ c. is_parent_of cmp p (Some c)) (nodes cmp rows))) (sym x.2)
        (among_filter (λ c. is_parent_of cmp p (Some c)) x.0.target (nodes cmp rows)
        ((nodes-is total anti dims rows wide x.0.target).1 (target_node total anti 0 rows p n node is x.0 f.0)) f.1)

    -- a child has its edge
    edge_to : (c : Cell A) → is_node (eq_by_cmp cmp) rows c ≡ true → (i : ℕ) → depth c ≡ suc i → cell_prefix i c ≡ p
        → (x : Edge A (Cell A)) × Among x n.edges × (x.target ≡ c)
    edge_to c h i d q =
        let a : (v : A) × (c ≡ with_value (cell_prefix i c) i v) × (slice_get c i ≡ Some (Some v))
        × (is_node (eq_by_cmp cmp) rows (cell_prefix i c) ≡ true)
        × (target_of_label (eq_by_cmp cmp) rows (cell_prefix i c) i v ≡ Some c) = node_above law rows c i d h in
        let long : i < length p = omega (arith, ap length q, length-cell_prefix i c, depth-le c, d) in
        let short : depth p ≤ i = subst (λ x. depth x ≤ i) q (depth-cell_prefix-le i c) in
        let is_c : c ≡ with_value p i a.0 = a.1 ∙ ap (λ x. with_value x i a.0) q in
        let wide_u : length closed.0 ≡ length p = sym (length-cell_prefix (depth p) closed.0)
        ∙ ap length (prefix_of_class law rows p closed.0 closed.1 node).1 in
        let before : i ≤ next_value cmp (depth p) closed.0
        = child_before law rows p closed.0 i a.0 closed.1 short long
        (subst (λ x. is_node (eq_by_cmp cmp) rows x ≡ true) is_c h) cmp wide_u in (
          record { dim = i; value = a.0; target = c },
          (record_edges total anti 0 rows p n node is closed.0 (record { dim = i; value = a.0; target = c }) closed.1).1
              (record {
                place = record { behind = short; before = before; within = long };
                leads
                    = ap (λ x. target_of_label (eq_by_cmp cmp) rows x i a.0) (sym q) ∙ a.4;
              }),
          refl,
        )

    under_is : (c : Cell A) → is_parent_of cmp p (Some c) ≡ true → (i : ℕ) × (depth c ≡ suc i) × (cell_prefix i c ≡ p)
    under_is c h = go (depth c) refl h
      where
        go : (d : ℕ) → depth c ≡ d
            → option_eq (cell_eq (eq_by_cmp cmp)) (cond (depth c == 0) None (Some (cell_prefix (depth c - 1) c)))
            (Some p) ≡ true → (i : ℕ) × (depth c ≡ suc i) × (cell_prefix i c ≡ p)
        go zero e k = absurd (true≢false (sym k
            ∙ ap (λ o. option_eq (cell_eq (eq_by_cmp cmp)) o (Some p))
            (cond-true (depth c == 0) None (Some (cell_prefix (depth c - 1) c)) (eq-eqb (depth c) 0 e))))
        go (suc i) e k =
            let apart : (depth c == 0) ≡ false = false_from_ne_true _ (λ t. let z = eqb-true (depth c) 0 t in
            absurd (omega arith)) in
            let less : depth c - 1 ≡ i = omega arith in (
              i,
              e,
              cell_eq-exact law (cell_prefix i c) p
                  (ap (λ j. cell_eq (eq_by_cmp cmp) (cell_prefix j c) p) (sym less)
                  ∙ sym (ap (λ o. option_eq (cell_eq (eq_by_cmp cmp)) o (Some p))
                  (cond-false (depth c == 0) None (Some (cell_prefix (depth c - 1) c)) apart)) ∙ k),
            )

    from_child : (c : Cell A) → Among c children → Among c (map (λ x. x.target) child_edges)
    unfolding child_edges children
    from_child c m =
        let f = filter_among (λ c. is_parent_of cmp p (Some c)) c (nodes cmp rows) m in
        let d : (i : ℕ) × (depth c ≡ suc i) × (cell_prefix i c ≡ p) = under_is c f.1 in
        let x : (x : Edge A (Cell A)) × Among x n.edges × (x.target ≡ c)
        = edge_to c ((nodes-is total anti dims rows wide c).0 f.0) d.0 d.1 d.2 in
        subst (λ y. Among y (map (λ x. x.target) (filter (λ x. is_parent_of cmp p (Some x.target)) n.edges))) x.2
        (map_among (λ (x : Edge A (Cell A)). x.target) x.0 (filter (λ x. is_parent_of cmp p (Some x.target)) n.edges)
        (among_filter (λ (y : Edge A (Cell A)). is_parent_of cmp p (Some y.target)) x.0 n.edges x.1
        (ap (λ c. is_parent_of cmp p (Some c)) x.2 ∙ f.1)))

    as_many : count_by (λ x. is_parent_of cmp p (Some x.target)) n.edges ≡ count_by (λ c. is_parent_of cmp p (Some c))
        (nodes cmp rows)
    unfolding child_edges children
    as_many =
        sym (length-filter (λ x. is_parent_of cmp p (Some x.target)) n.edges)
        ∙ sym (length-map child_edges (λ x. x.target)) ∙ sym (sum_ones (map (λ x. x.target) child_edges))
        ∙ sum_same (λ c. 1) (map (λ x. x.target) child_edges) children
        (once_map (λ x. x.target) child_edges same_target edge_once)
        (once_filter (λ c. is_parent_of cmp p (Some c)) (nodes cmp rows) node_once) to_child from_child
        ∙ sum_ones children ∙ length-filter (λ c. is_parent_of cmp p (Some c)) (nodes cmp rows)

  -- the edges to children of a record
  weight : Node A (Cell A) → ℕ
  weight n = count_by (λ x. is_parent_of cmp n.cell (Some x.target)) n.edges

  weight_is : (p : Cell A) → Among p (nodes cmp rows)
      → or_nothing weight (node_of cmp 0 rows p) ≡ sum_by (λ c. cond (is_parent_of cmp p (Some c)) 1 0) (nodes cmp rows)
  unfolding weight
  weight_is p m =
      let node = (nodes-is total anti dims rows wide p).0 m in
      let u = node_closed law rows p node in
      let is : node_of cmp 0 rows p ≡ Some (record_of cmp 0 rows p u.0)
      = ap (option_map (λ u. record_of cmp 0 rows p u)) u.1 in
      ap (or_nothing weight) is ∙ as_many p (record_of cmp 0 rows p u.0) node is

  -- a node lies under one node, but for the root
  under_one : (c : Cell A) → Among c (nodes cmp rows)
      → sum_by (λ p. cond (is_parent_of cmp p (Some c)) 1 0) (nodes cmp rows) ≡ cond (depth c == 0) 0 1
  under_one c m = go (depth c == 0)
    where
      front : Among (cell_prefix (depth c - 1) c) (nodes cmp rows)
      front = (nodes-is total anti dims rows wide (cell_prefix (depth c - 1) c)).1
          (node_prefixes law rows c (depth c - 1) ((nodes-is total anti dims rows wide c).0 m))

      go : (b : Bool) → sum_by
          (λ p. cond (option_eq (cell_eq (eq_by_cmp cmp)) (cond b None (Some (cell_prefix (depth c - 1) c))) (Some p)) 1
          0) (nodes cmp rows) ≡ cond b 0 1
      go true = sum_zero (nodes cmp rows)
      go false = one_hit law (cell_prefix (depth c - 1) c) (nodes cmp rows) node_once front

  sum_edges : tree_edges cmp rows ≡ sum_by (λ c. cond (depth c == 0) 0 1) (nodes cmp rows)
  unfolding weight
  sum_edges =
      sum_by-map (λ x. x) weight (tree cmp 0 rows) ∙ sum_by-filter_map weight (node_of cmp 0 rows) (nodes cmp rows)
      ∙ sum_alike (λ p. or_nothing weight (node_of cmp 0 rows p))
      (λ p. sum_by (λ c. cond (is_parent_of cmp p (Some c)) 1 0) (nodes cmp rows)) (nodes cmp rows) weight_is
      ∙ sum_swap (λ p c. cond (is_parent_of cmp p (Some c)) 1 0) (nodes cmp rows) (nodes cmp rows)
      ∙ sum_alike (λ c. sum_by (λ p. cond (is_parent_of cmp p (Some c)) 1 0) (nodes cmp rows))
      (λ c. cond (depth c == 0) 0 1) (nodes cmp rows) under_one

  root_is : (c : Cell A) → Among c (nodes cmp rows) → (depth c == 0) ≡ cell_eq (eq_by_cmp cmp) (replicate dims None) c
  root_is c m = both_ways _ _
      (λ t. subst (λ x. cell_eq (eq_by_cmp cmp) (replicate dims None) x ≡ true) (sym (at_zero (eqb-true (depth c) 0 t)))
      (cell_eq-same law (replicate dims None)))
      (λ t. let is : replicate dims None ≡ c = cell_eq-exact law (replicate dims None) c t in
      eq-eqb (depth c) 0 (ap depth (sym is) ∙ ap depth (sym whole) ∙ depth-cell_prefix_zero c))
    where
      long : length c ≡ dims
      long = let q : (r : Row A) × Among r rows × (length c ≡ length r.tuple) × (covers (eq_by_cmp cmp) c r ≡ true)
          = (covered-is total anti rows c).0 (filter_among (is_node (eq_by_cmp cmp) rows) c (covered cmp rows) m).0 in
          q.2 ∙ all_at (λ row. length row.tuple ≡ dims) q.0 rows wide q.1

      whole : cell_prefix 0 c ≡ replicate dims None
      whole = cell_prefix_zero c ∙ ap (λ n. replicate n None) long

      at_zero : depth c ≡ 0 → c ≡ replicate dims None
      at_zero e = sym (cell_prefix-depth c) ∙ ap (λ n. cell_prefix n c) e ∙ whole

  root_there : (r : Row A) → Among r rows → Among (replicate dims None) (nodes cmp rows)
  root_there r m =
      let z : (z : Cell A) × (closure (eq_by_cmp cmp) rows (cell_of r.tuple) ≡ Some z)
      = covered_some (eq_by_cmp cmp) rows (cell_of r.tuple) r m (leq_refl law (cell_of r.tuple)) in
      let node : is_node (eq_by_cmp cmp) rows (cell_prefix 0 z.0) ≡ true
      = class_prefixes law rows 0 z.0
      ((is_class-is law rows z.0).1 (closure_idem law rows (cell_of r.tuple) z.0 z.1)) in
      let long : length z.0 ≡ dims = closure_length (eq_by_cmp cmp) dims (cell_of r.tuple) z.0 rows wide z.1 in
      subst (λ x. Among x (nodes cmp rows)) (cell_prefix_zero z.0 ∙ ap (λ n. replicate n None) long)
      ((nodes-is total anti dims rows wide (cell_prefix 0 z.0)).1 node)

  pub one_tree : (r : Row A) → Among r rows → suc (tree_edges cmp rows) ≡ length (nodes cmp rows)
  one_tree r m =
      let roots : sum_by (λ c. cond (depth c == 0) 1 0) (nodes cmp rows) ≡ 1 =
      sum_alike (λ c. cond (depth c == 0) 1 0) (λ c. cond (cell_eq (eq_by_cmp cmp) (replicate dims None) c) 1 0)
      (nodes cmp rows) (λ c k. ap (λ b. cond b 1 0) (root_is c k))
      ∙ one_hit law (replicate dims None) (nodes cmp rows) node_once (root_there r m) in
      let parts : sum_by (λ c. cond (depth c == 0) 0 1 + cond (depth c == 0) 1 0) (nodes cmp rows)
      ≡ length (nodes cmp rows) =
      sum_alike (λ c. cond (depth c == 0) 0 1 + cond (depth c == 0) 1 0) (λ c. 1) (nodes cmp rows)
      (λ c k. one (depth c == 0)) ∙ sum_ones (nodes cmp rows) in
      let apart : sum_by (λ c. cond (depth c == 0) 0 1 + cond (depth c == 0) 1 0) (nodes cmp rows)
      ≡ sum_by (λ c. cond (depth c == 0) 0 1) (nodes cmp rows) + sum_by (λ c. cond (depth c == 0) 1 0)
      (nodes cmp rows) =
      sum_add (λ c. cond (depth c == 0) 0 1) (λ c. cond (depth c == 0) 1 0) (nodes cmp rows) in
      omega (arith, roots, parts, apart, sum_edges)
    where
      one : (b : Bool) → cond b 0 1 + cond b 1 0 ≡ 1
      one true = refl
      one false = refl
