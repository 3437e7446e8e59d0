-- A walk from the root comes to all nodes, and to none twice.
use Rattle.std.proofs.Common.{◌≡◌, inl, inr, ℕ, zero, suc, ◌<◌, ◌≤◌, Bool, true, false, Option, Some, None, List, [], ◌∷◌, ◌++◌, length}
use Rattle.std.proofs.Common.{map, flat_map, replicate, refl, sym, ap, ap₂, subst, ◌∙◌, arith, cond, nat_eq, eqb-true, eq-eqb}
use Rattle.std.specs.List.Sorted.{IsStrictlySortedBy}
use Rattle.std.specs.Prelude.{IsSome}
use Rattle.std.specs.declared.cmp.Ordering.TheVariants.{Less}
use Rattle.std.specs.Cmp.{nat_cmp_total}
use Rattle.std.specs.FinMap as numbers
use Rattle.std.specs.List.{AllByRecursion, IsDistinct}
use Rattle.std.specs.Option.{option_map, option_eq}
use Rattle.std.specs.Ordering.{nat_cmp, eq_by_cmp, ordering_then}
use Rattle.std.proofs.lemmas.Bool.{false_from_ne_true}
use Rattle.cube_defs.specs.Cell.{Cell, depth, cell_prefix, with_value}
use Rattle.cube_defs.specs.Rows.{closure, is_node}
use Rattle.cube_defs.specs.Tree.{Edge, Node, Tree, cell_at, next_value, renamed_edge}
use Rattle.cube_laws.specs.Lists.{Among}
use Rattle.cube_laws.proofs.CallerLemmas.{depth-le, length-cell_prefix, cell_prefix_zero, closure_length, all_at, all_from, among_flat_map}
use Rattle.cube_laws.proofs.CallerLemmas.{among_map, map_among, all_append, code_equality}
use Rattle.qc_arena.specs.RecordReaders.{record_at}
use Rattle.tree_laws.specs.Edges.{edge_cmp}
use Rattle.tree_laws.specs.Labels.{IsLabel}
use Rattle.tree_laws.proofs.CallerLemmas.{child_before, node_above, parent_is, depth-cell_prefix-le, cell_prefix-beyond, some_same, there}
use Rattle.tree_laws.proofs.CallerLemmas.{record_edges, record_rises}
use Rattle.tree_search.specs.Found.{IsTreeOf, TreeRows}
use Rattle.tree_search.proofs.CallerLemmas.{cell_of, cell_there, there_is}
use Rattle.iceberg_query.specs.Subtree.{subtree, is_child, is_parent_node}
use Rattle.lower_bounds.proofs.CallerLemmas.{closed}
use Rattle.iceberg_query.proofs.Reached.{IsRecord, IsStep, apart, below_begins, child_of, closed_below, from_edge_among, is_node_at}
use Rattle.iceberg_query.proofs.Reached.{own_below, own_prefix, record_of_node, step_depth, wide}
use Rattle.iceberg_query.proofs.Walked.{from_edge}

once_append : (xs ys : List ℕ) → IsDistinct nat_eq xs → IsDistinct nat_eq ys
    → ((x y : ℕ) → Among x xs → Among y ys → nat_eq x y ≡ false) → IsDistinct nat_eq (xs ++ ys)
unfolding IsDistinct
once_append [] ys a b f = b
once_append (x ∷ xs) ys a b f
    = (
      all_append (λ y. nat_eq x y ≡ false) xs ys a.0
          (all_from (λ y. nat_eq x y ≡ false) ys (λ y m. f x y (inl refl) m)),
      once_append xs ys a.1 b (λ z y m k. f z y (inr m) k),
    )

module _ (tree : Tree ℕ) where
  all_renamed : (a : Edge ℕ (Cell ℕ)) (b : Edge ℕ ℕ) (xs : List (Edge ℕ ℕ)) (ys : List (Edge ℕ (Cell ℕ)))
      → b.dim ≡ a.dim → b.value ≡ a.value → map (renamed_edge (cell_at tree)) xs ≡ map (renamed_edge (λ c. Some c)) ys
      → AllByRecursion (λ y. edge_cmp nat_cmp a y ≡ Less) ys → AllByRecursion (λ x. edge_cmp nat_cmp b x ≡ Less) xs
  all_renamed a b [] ys d v e h = tt
  all_renamed a b (x ∷ xs) [] d v e h = cc
  all_renamed a b (x ∷ xs) (y ∷ ys) d v e h =
      let same : renamed_edge (cell_at tree) x ≡ renamed_edge (λ c. Some c) y = cc in
      let rest : map (renamed_edge (cell_at tree)) xs ≡ map (renamed_edge (λ c. Some c)) ys = cc in
      let dim : x.dim ≡ y.dim = ap (λ z. z.dim) same in
      let value : x.value ≡ y.value = ap (λ z. z.value) same in (
        ap₂ (λ m n. ordering_then m n) (ap₂ nat_cmp d dim) (ap₂ nat_cmp v value) ∙ h.0,
        all_renamed a b xs ys d v rest h.1,
      )

  rises_renamed : (xs : List (Edge ℕ ℕ)) (ys : List (Edge ℕ (Cell ℕ)))
      → map (renamed_edge (cell_at tree)) xs ≡ map (renamed_edge (λ c. Some c)) ys
      → IsStrictlySortedBy (edge_cmp nat_cmp) ys → IsStrictlySortedBy (edge_cmp nat_cmp) xs
  unfolding IsStrictlySortedBy
  rises_renamed [] ys e h = tt
  rises_renamed (x ∷ xs) [] e h = cc
  rises_renamed (x ∷ xs) (y ∷ ys) e h =
      let same : renamed_edge (cell_at tree) x ≡ renamed_edge (λ c. Some c) y = cc in
      let rest : map (renamed_edge (cell_at tree)) xs ≡ map (renamed_edge (λ c. Some c)) ys = cc in
      (all_renamed y x xs ys (ap (λ z. z.dim) same) (ap (λ z. z.value) same) rest h.0, rises_renamed xs ys rest h.1)

module _ (dims : ℕ) (tree : Tree ℕ) (source : TreeRows) (h : IsTreeOf dims tree source) where
  abbrev cell : ℕ → Cell ℕ
  cell k = (record_at tree k).cell

  edges_rise : (k : ℕ) → IsSome (numbers.get tree k) → IsStrictlySortedBy (edge_cmp nat_cmp) (record_at tree k).edges
  unfolding IsStrictlySortedBy
  edges_rise k t =
      let r : (m : Node ℕ (Cell ℕ)) × IsRecord dims tree source h k m = record_of_node dims tree source h k t in
      rises_renamed tree (record_at tree k).edges r.0.edges r.1.edges
      (record_rises nat_cmp_total numbers.nat_cmp-IsAntisymmetric source.measures source.rows (cell k) r.0 r.1.is)

  pub below_once : (n k : ℕ) → IsSome (numbers.get tree k) → IsDistinct nat_eq (subtree tree n k)
  unfolding IsDistinct IsStrictlySortedBy
  below_once zero k t = (tt, tt)
  below_once (suc n) k t = (
    all_from (λ l. nat_eq k l ≡ false) (flat_map (from_edge tree k n) (record_at tree k).edges) (λ l m. other l m),
    all (λ x m. one x m (λ s. below_once n x.target s)) (record_at tree k).edges (λ x m. m) (edges_rise k t),
  )
    where
      other : (l : ℕ) → Among l (flat_map (from_edge tree k n) (record_at tree k).edges) → nat_eq k l ≡ false
      other l m = false_from_ne_true _ (λ e.
          let same : k ≡ l = eqb-true k l e in
          let f : (x : Edge ℕ ℕ) × Among x (record_at tree k).edges × Among l (from_edge tree k n x)
          = (among_flat_map (from_edge tree k n) l (record_at tree k).edges).0 m in
          let g = from_edge_among tree k n f.0 l f.2 in
          let s : IsSome (numbers.get tree f.0.target) × ((j : ℕ) × IsStep dims tree source h k f.0.target j)
          = child_of dims tree source h k f.0 t f.1 g.0 in
          let d : depth (cell k) ≤ s.1.0 = step_depth dims tree source h k f.0.target s.1.0 s.1.1 in
          let r = (below_begins dims tree source h n f.0.target l s.0 g.1).begins in
          let whole : cell_prefix (depth (cell f.0.target)) (cell k) ≡ cell k
          = cell_prefix-beyond (depth (cell f.0.target)) (cell k) (omega (arith, d, s.1.1.deep)) in
          let cells : cell f.0.target ≡ cell k
          = sym r ∙ ap (λ i. cell_prefix (depth (cell f.0.target)) (cell i)) (sym same) ∙ whole in
          omega (arith, d, s.1.1.deep, ap depth cells))

      one : (x : Edge ℕ ℕ) → Among x (record_at tree k).edges
          → (IsSome (numbers.get tree x.target) → IsDistinct nat_eq (subtree tree n x.target))
          → IsDistinct nat_eq (from_edge tree k n x)
      one x m more = by (is_child tree k x) refl
        where
          by : (b : Bool) → is_child tree k x ≡ b → IsDistinct nat_eq (cond b (subtree tree n x.target) [])
          by true e = more (child_of dims tree source h k x t m e).0
          by false e = tt

      all : ((x : Edge ℕ ℕ) → Among x (record_at tree k).edges → IsDistinct nat_eq (from_edge tree k n x))
          → (xs : List (Edge ℕ ℕ)) → ((x : Edge ℕ ℕ) → Among x xs → Among x (record_at tree k).edges)
          → IsStrictlySortedBy (edge_cmp nat_cmp) xs → IsDistinct nat_eq (flat_map (from_edge tree k n) xs)
      all each [] within r = tt
      all each (x ∷ xs) within r
          = once_append (from_edge tree k n x) (flat_map (from_edge tree k n) xs) (each x (within x (inl refl)))
          (all each xs (λ y m. within y (inr m)) r.1)
          (λ a b m q. false_from_ne_true _ (λ e.
          let same : a ≡ b = eqb-true a b e in
          let f : (y : Edge ℕ ℕ) × Among y xs × Among b (from_edge tree k n y)
          = (among_flat_map (from_edge tree k n) b xs).0 q in
          apart dims tree source h k n x f.0 t (within x (inl refl)) (within f.0 (inr f.1))
          (all_at (λ y. edge_cmp nat_cmp x y ≡ Less) f.0 xs r.0 f.1) b
          (subst (λ i. Among i (from_edge tree k n x)) same m) f.2))

  module _ (root : ℕ) (at : cell_at tree root ≡ Some (replicate dims None)) where
    only_root : (l : ℕ) → IsSome (numbers.get tree l) → depth (cell l) ≡ 0 → root ≡ l
    only_root l t e =
        let is : cell l ≡ replicate dims None = sym (own_prefix dims tree source h (cell l))
        ∙ ap (λ n. cell_prefix n (cell l)) e ∙ cell_prefix_zero (cell l)
        ∙ ap (λ n. replicate n None) (wide dims tree source h l t) in
        h.canonical.once root l (replicate dims None) at (cell_there tree l t ∙ ap (λ c. Some c) is)

    -- the edge from the parent
    from_parent : (l j : ℕ) → IsSome (numbers.get tree l) → depth (cell l) ≡ suc j → (k : ℕ)
        × IsSome (numbers.get tree k) × (depth (cell k) ≤ j)
        × ((x : Edge ℕ ℕ) × Among x (record_at tree k).edges × (is_child tree k x ≡ true) × (x.target ≡ l))
    from_parent l j t d =
        let a = node_above code_equality source.rows (cell l) j d (is_node_at dims tree source h l t) in
        let f : (k : ℕ) × (cell_at tree k ≡ Some (cell_prefix j (cell l)))
        = h.canonical.all (cell_prefix j (cell l)) a.3 in
        let s : IsSome (numbers.get tree f.0) = there tree f.0 (cell_prefix j (cell l)) f.1 in
        let own : cell f.0 ≡ cell_prefix j (cell l) = cell_of tree f.0 (cell_prefix j (cell l)) f.1 in
        let r : (m : Node ℕ (Cell ℕ)) × IsRecord dims tree source h f.0 m = record_of_node dims tree source h f.0 s in
        let u : (u : Cell ℕ) × (closure (eq_by_cmp nat_cmp) source.rows (cell f.0) ≡ Some u)
        = closed dims tree source h f.0 s in
        let p : Cell ℕ = cell_prefix j (cell l) in
        let is : closure (eq_by_cmp nat_cmp) source.rows (cell_prefix j (cell l)) ≡ Some u.0
        = ap (closure (eq_by_cmp nat_cmp) source.rows) (sym own) ∙ u.1 in
        let long : length u.0 ≡ dims = closure_length (eq_by_cmp nat_cmp) dims (cell f.0) u.0 source.rows h.wide u.1 in
        let kept : length (cell_prefix j (cell l)) ≡ dims = length-cell_prefix j (cell l)
        ∙ wide dims tree source h l t in
        let deep = depth-le (cell l) in
        let within : j < length (cell_prefix j (cell l)) = omega (arith, kept, wide dims tree source h l t, deep, d) in
        let node : is_node (eq_by_cmp nat_cmp) source.rows (with_value (cell_prefix j (cell l)) j a.0) ≡ true
        = subst (λ c. is_node (eq_by_cmp nat_cmp) source.rows c ≡ true) a.1 (is_node_at dims tree source h l t) in
        let label : IsLabel nat_cmp source.rows (cell_prefix j (cell l))
        (next_value nat_cmp (depth (cell_prefix j (cell l))) u.0) (record { dim = j; value = a.0; target = cell l })
        = record {
          place = record {
            behind = depth-cell_prefix-le j (cell l);
            before
                = child_before code_equality source.rows (cell_prefix j (cell l)) u.0 j a.0 is
                (depth-cell_prefix-le j (cell l)) within node nat_cmp (long ∙ sym kept);
            within = within;
          };
          leads = a.4;
        } in
        let here : IsLabel nat_cmp source.rows (cell f.0) (next_value nat_cmp (depth (cell f.0)) u.0)
        (record { dim = j; value = a.0; target = cell l })
        = subst (λ c. IsLabel nat_cmp source.rows c (next_value nat_cmp (depth c) u.0)
        (record { dim = j; value = a.0; target = cell l })) (sym own) label in
        let m : Among (record { dim = j; value = a.0; target = cell l }) r.0.edges
        = (record_edges nat_cmp_total numbers.nat_cmp-IsAntisymmetric source.measures source.rows (cell f.0) r.0
        (is_node_at dims tree source h f.0 s) r.1.is u.0 (record { dim = j; value = a.0; target = cell l }) u.1).1
        here in
        let e : (x : Edge ℕ ℕ) × Among x (record_at tree f.0).edges
        × (renamed_edge (λ c. Some c) (record { dim = j; value = a.0; target = cell l })
        ≡ renamed_edge (cell_at tree) x)
        = among_map (renamed_edge (cell_at tree))
        (renamed_edge (λ c. Some c) (record { dim = j; value = a.0; target = cell l })) (record_at tree f.0).edges
        (subst (Among (renamed_edge (λ c. Some c) (record { dim = j; value = a.0; target = cell l }))) (sym r.1.edges)
        (map_among (renamed_edge (λ c. Some c)) (record { dim = j; value = a.0; target = cell l }) r.0.edges m)) in
        let target : e.0.target ≡ l
        = h.canonical.once e.0.target l (cell l) (sym (ap (λ z. z.target) e.2)) (cell_there tree l t) in (
          f.0,
          s,
          subst (λ c. depth c ≤ j) (sym own) (depth-cell_prefix-le j (cell l)),
          (e.0, e.1, ap (is_parent_node tree f.0) target ∙ under l j t d f.0 f.1, target),
        )
      where
        under : (l j : ℕ) → IsSome (numbers.get tree l) → depth (cell l) ≡ suc j → (k : ℕ)
            → cell_at tree k ≡ Some (cell_prefix j (cell l)) → is_parent_node tree k l ≡ true
        under l j t d k g = go (record_at tree l).parent
            (parent_is nat_cmp_total numbers.nat_cmp-IsAntisymmetric dims source.measures source.rows h.wide tree
            h.canonical l (record_at tree l) (there_is tree l t) j d)
          where
            go : (o : Option ℕ) → option_map (cell_at tree) o ≡ Some (Some (cell_prefix j (cell l)))
                → option_eq nat_eq o (Some k) ≡ true
            go None q = cc
            go (Some i) q = eq-eqb i k (h.canonical.once i k (cell_prefix j (cell l)) (some_same q) g)

    reached : (d l : ℕ) → IsSome (numbers.get tree l) → depth (cell l) ≤ d → Among l (subtree tree dims root)
    reached zero l t e = subst (λ i. Among i (subtree tree dims root)) (only_root l t (omega arith))
        (own_below tree dims root)
    reached (suc d) l t e = go (λ k s b. reached d k s b) (depth (cell l)) refl
      where
        go : ((k : ℕ) → IsSome (numbers.get tree k) → depth (cell k) ≤ d → Among k (subtree tree dims root)) → (n : ℕ)
            → depth (cell l) ≡ n → Among l (subtree tree dims root)
        go more zero q = subst (λ i. Among i (subtree tree dims root)) (only_root l t q) (own_below tree dims root)
        go more (suc j) q =
            let f : (k : ℕ) × IsSome (numbers.get tree k) × (depth (cell k) ≤ j)
            × ((x : Edge ℕ ℕ) × Among x (record_at tree k).edges × (is_child tree k x ≡ true) × (x.target ≡ l))
            = from_parent l j t q in
            let m : Among f.0 (subtree tree dims root) = more f.0 f.1 (omega (arith, f.2, q, e)) in
            subst (λ i. Among i (subtree tree dims root)) f.3.3
            (closed_below dims tree source h dims root f.0 f.3.0 (there tree root (replicate dims None) at)
            (omega arith) m f.3.1 f.3.2)

    -- all nodes
    pub all_below : (l : ℕ) → IsSome (numbers.get tree l) → Among l (subtree tree dims root)
    all_below l t = reached (depth (cell l)) l t (omega arith)
