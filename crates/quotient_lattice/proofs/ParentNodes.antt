-- The nodes of the parents of a class, with the texts of their codes.
use Rattle.std.proofs.Common.{◌≡◌, ◌↔◌, ℕ, suc, true, Some, None, is_some, List, [], ◌∷◌, length, map, refl, sym, ap, ap₂, subst, ◌∙◌}
use Rattle.std.proofs.Common.{arith, true≢false, inl, inr}
use Rattle.std.specs.Prelude.{IsSome}
use Rattle.std.specs.declared.cmp.Ordering.TheVariants.{Less, Equal}
use Rattle.std.specs.Ordering.{nat_cmp, eq_by_cmp, ordering_then}
use Rattle.std.specs.Cmp.{nat_cmp_total, tied_itself}
use Rattle.std.specs.FinMap as numbers
use Rattle.std.specs.List.{All, AllByRecursion}
use Rattle.std.specs.List.Sorted.{IsStrictlySortedBy}
use Rattle.std.proofs.lemmas.Bool.{and_parts}
use Rattle.std.proofs.lemmas.Simd.{map-map}
use Rattle.cube_defs.specs.Text.{Text, text_cmp}
use Rattle.cube_defs.specs.Cell.{Cell, cell_cmp, leq}
use Rattle.cube_defs.specs.Rows.{is_class}
use Rattle.cube_defs.specs.Tree.{Tree, cell_at, classes}
use Rattle.cube_laws.specs.Lists.{Among}
use Rattle.cube_laws.specs.Recoding.{RowsAreKnown, coded_cell}
use Rattle.cube_laws.proofs.CallerLemmas.{is_class-is, classes-is, classes_rise, rises-filter, among_all, among_filter, among_map}
use Rattle.cube_laws.proofs.CallerLemmas.{filter_among, map_among, code_equality}
use Rattle.cell_core.specs.declared.cell.NodeNo.{NodeNo}
use Rattle.qc_arena.specs.RecordReaders.{number, record_at}
use Rattle.tree_laws.proofs.CallerLemmas.{class_is, there}
use Rattle.tree_search.specs.Found.{IsTreeOf, TreeRows}
use Rattle.tree_search.proofs.CallerLemmas.{cell_of, cell_there, there_is}
use Rattle.value_dict.specs.TextLists.{IsDictionary, TextLists}
use Rattle.value_dict.specs.Recoded.{has_code, text_in, decoded_row_list}
use Rattle.value_dict.specs.Decoded.{decoded_cell}
use Rattle.value_dict.proofs.CallerLemmas.{told-known}
use Rattle.quotient_lattice.specs.Neighbours.{is_parent, parents}
use Rattle.quotient_lattice.specs.DecodedNodes.{decoded_nodes}
use Rattle.quotient_lattice.proofs.Coded.{is_parent-coded}
use Rattle.quotient_lattice.proofs.NodesDecoded.{Passes, class_known, nodes_alike, tells, text_anti, text_total, told_passing}

-- cells that generalize one cell stand in the same order by any values
below_order : (lists : List (List Text)) (j : ℕ) (u c d : Cell ℕ) → leq (eq_by_cmp nat_cmp) c u ≡ true
    → leq (eq_by_cmp nat_cmp) d u ≡ true → cell_cmp nat_cmp c d ≡ Less
    → cell_cmp text_cmp (coded_cell (text_in lists) j c) (coded_cell (text_in lists) j d) ≡ Less
below_order lists j u [] [] a b h = cc
below_order lists j u [] (f ∷ d) a b h = refl
below_order lists j u (e ∷ c) [] a b h = cc
below_order lists j [] (e ∷ c) (f ∷ d) a b h = absurd (true≢false (sym a))
below_order lists j (g ∷ u) (None ∷ c) (None ∷ d) a b h = below_order lists (suc j) u c d a b h
below_order lists j (g ∷ u) (None ∷ c) (Some w ∷ d) a b h = refl
below_order lists j (g ∷ u) (Some v ∷ c) (None ∷ d) a b h = cc
below_order lists j (None ∷ u) (Some v ∷ c) (Some w ∷ d) a b h = absurd (true≢false (sym a))
below_order lists j (Some x ∷ u) (Some v ∷ c) (Some w ∷ d) a b h =
    let p = and_parts (eq_by_cmp nat_cmp v x) _ a in
    let q = and_parts (eq_by_cmp nat_cmp w x) _ b in
    let same : v ≡ w = code_equality.exact v x p.0 ∙ sym (code_equality.exact w x q.0) in
    let tie : nat_cmp v w ≡ Equal = ap (nat_cmp v) (sym same) ∙ tied_itself nat_cmp_total v in
    let rest : cell_cmp nat_cmp c d ≡ Less = sym (ap (λ o. ordering_then o (cell_cmp nat_cmp c d)) tie) ∙ h in
    let told_tie : text_cmp (text_in lists j v) (text_in lists j w) ≡ Equal
    = ap (λ z. text_cmp (text_in lists j v) (text_in lists j z)) (sym same)
    ∙ tied_itself text_total (text_in lists j v) in
    ap (λ o. ordering_then o
    (cell_cmp text_cmp (coded_cell (text_in lists) (suc j) c) (coded_cell (text_in lists) (suc j) d))) told_tie
    ∙ below_order lists (suc j) u c d p.1 q.1 rest

below_rise : (lists : List (List Text)) (u : Cell ℕ) (cs : List (Cell ℕ))
    → ((c : Cell ℕ) → Among c cs → leq (eq_by_cmp nat_cmp) c u ≡ true) → IsStrictlySortedBy (cell_cmp nat_cmp) cs
    → IsStrictlySortedBy (cell_cmp text_cmp) (map (coded_cell (text_in lists) 0) cs)
unfolding IsStrictlySortedBy
below_rise lists u [] low s = tt
below_rise lists u (c ∷ cs) low s
    = (behind cs (λ d m. low d (inr m)) s.0, below_rise lists u cs (λ d m. low d (inr m)) s.1)
  where
    behind : (ds : List (Cell ℕ)) → ((d : Cell ℕ) → Among d ds → leq (eq_by_cmp nat_cmp) d u ≡ true)
        → AllByRecursion (λ d. cell_cmp nat_cmp c d ≡ Less) ds
        → AllByRecursion (λ d. cell_cmp text_cmp (coded_cell (text_in lists) 0 c) d ≡ Less)
        (map (coded_cell (text_in lists) 0) ds)
    behind [] f a = tt
    behind (d ∷ ds) f a = (
      below_order lists 0 u c d (low c (inl refl)) (f d (inl refl)) a.0,
      behind ds (λ e m. f e (inr m)) a.1,
    )

module _ (dims : ℕ) (tree : Tree ℕ) (source : TreeRows) (h : IsTreeOf dims tree source) where
  -- a node whose cell is a class has what its rows come to
  pub class_some : (k : ℕ) → IsSome (numbers.get tree k)
      → is_class (eq_by_cmp nat_cmp) source.rows (record_at tree k).cell ≡ true → IsSome (record_at tree k).class
  class_some k t e =
      ap is_some (class_is nat_cmp_total numbers.nat_cmp-IsAntisymmetric dims source.measures source.rows h.wide tree
      h.canonical k (record_at tree k) (there_is tree k t) (record_at tree k).cell
      ((is_class-is code_equality source.rows (record_at tree k).cell).0 e))

  module _ (u : Cell ℕ) (nodes : List NodeNo)
      (are : map (λ (n : NodeNo). cell_at tree n.0) nodes ≡ map (λ c. Some c) (parents nat_cmp source.rows u)) where
    -- each is a parent's
    parent_of : (n : NodeNo) → Among n nodes → (c : Cell ℕ) × Among c (parents nat_cmp source.rows u)
        × (cell_at tree n.0 ≡ Some c)
    parent_of n m = among_map (λ c. Some c) (cell_at tree n.0) (parents nat_cmp source.rows u)
        (subst (Among (cell_at tree n.0)) are (map_among (λ (n : NodeNo). cell_at tree n.0) n nodes m))

    cell_is_class : (c : Cell ℕ) → Among c (parents nat_cmp source.rows u)
        → is_class (eq_by_cmp nat_cmp) source.rows c ≡ true
    cell_is_class c m = (classes-is nat_cmp_total numbers.nat_cmp-IsAntisymmetric source.rows dims h.wide c).0
        (filter_among (λ p. is_parent nat_cmp source.rows p u) c (classes nat_cmp source.rows) m).0

    pub parents_are_classes : All (λ (n : NodeNo). IsSome (record_at tree n.0).class) nodes
    parents_are_classes = among_all _ nodes (λ n m.
        let p = parent_of n m in
        class_some n.0 (there tree n.0 p.0 p.2)
        (ap (is_class (eq_by_cmp nat_cmp) source.rows) (cell_of tree n.0 p.0 p.2) ∙ cell_is_class p.0 p.1))

    module _ (dict : TextLists) (dictionary : IsDictionary dict)
        (rows_known : RowsAreKnown (has_code dict.lists) source.rows) (same_dims : length dict.lists ≡ dims)
        (class : is_class (eq_by_cmp nat_cmp) source.rows u ≡ true) (long : length u ≡ dims) where
      abbrev ks : List ℕ
      ks = map number nodes

      abbrev cell : ℕ → Cell ℕ
      cell k = (record_at tree k).cell

      each : (k : ℕ) → Among k ks
          ↔ Passes dims tree dict source h dictionary rows_known same_dims (λ p. is_parent nat_cmp source.rows p u) k
      each k = (
        λ m.
            let n : (n : NodeNo) × Among n nodes × (k ≡ number n) = among_map number k nodes m in
            let p = parent_of n.0 n.1 in
            let at : cell_at tree k ≡ Some p.0 = ap (cell_at tree) n.2 ∙ p.2 in
            let own : cell k ≡ p.0 = cell_of tree k p.0 at in
            let f = filter_among (λ p. is_parent nat_cmp source.rows p u) p.0 (classes nat_cmp source.rows) p.1 in
            record {
              there = there tree k p.0 at;
              class = ap (is_class (eq_by_cmp nat_cmp) source.rows) own ∙ cell_is_class p.0 p.1;
              passes = ap (λ p. is_parent nat_cmp source.rows p u) own ∙ f.1;
            },
        λ p.
            let c : Among (cell k) (parents nat_cmp source.rows u)
            = among_filter (λ p. is_parent nat_cmp source.rows p u) (cell k) (classes nat_cmp source.rows)
            ((classes-is nat_cmp_total numbers.nat_cmp-IsAntisymmetric source.rows dims h.wide (cell k)).1 p.class)
            p.passes in
            let m : Among (Some (cell k)) (map (λ (n : NodeNo). cell_at tree n.0) nodes)
            = subst (Among (Some (cell k))) (sym are)
            (map_among (λ c. Some c) (cell k) (parents nat_cmp source.rows u) c) in
            let n : (n : NodeNo) × Among n nodes × (Some (cell k) ≡ cell_at tree n.0)
            = among_map (λ (n : NodeNo). cell_at tree n.0) (Some (cell k)) nodes m in
            let one : n.0.0 ≡ k = h.canonical.once n.0.0 k (cell k) (sym n.2) (cell_there tree k p.there) in
            subst (λ j. Among j ks) one (map_among number n.0 nodes n.1),
      )

      -- the cells of the nodes are the parents
      cells : (ns : List NodeNo) (cs : List (Cell ℕ)) → map (λ (n : NodeNo). cell_at tree n.0) ns ≡ map (λ c. Some c) cs
          → map (λ k. coded_cell (text_in dict.lists) 0 (cell k)) (map number ns)
          ≡ map (coded_cell (text_in dict.lists) 0) cs
      cells [] [] e = refl
      cells [] (c ∷ cs) e = cc
      cells (n ∷ ns) [] e = cc
      cells (n ∷ ns) (c ∷ cs) e =
          let first : cell_at tree n.0 ≡ Some c = cc in
          let rest : map (λ (n : NodeNo). cell_at tree n.0) ns ≡ map (λ c. Some c) cs = cc in
          ap₂ (λ (x : Cell Text) (xs : List (Cell Text)). x ∷ xs)
          (ap (coded_cell (text_in dict.lists) 0) (cell_of tree n.0 c first)) (cells ns cs rest)

      low : (c : Cell ℕ) → Among c (parents nat_cmp source.rows u) → leq (eq_by_cmp nat_cmp) c u ≡ true
      low c m =
          let f = filter_among (λ p. is_parent nat_cmp source.rows p u) c (classes nat_cmp source.rows) m in
          (and_parts (leq (eq_by_cmp nat_cmp) c u) _ (and_parts _ _ f.1).0).0

      rise : IsStrictlySortedBy (cell_cmp text_cmp) (map (λ k. coded_cell (text_in dict.lists) 0 (cell k)) ks)
      rise =
          subst (IsStrictlySortedBy (cell_cmp text_cmp)) (sym (cells nodes (parents nat_cmp source.rows u) are))
          (below_rise dict.lists u (parents nat_cmp source.rows u) low
          (rises-filter (cell_cmp nat_cmp) (λ p. is_parent nat_cmp source.rows p u) (classes nat_cmp source.rows)
          (classes_rise nat_cmp_total numbers.nat_cmp-IsAntisymmetric source.rows)))

      pub parents_told : decoded_nodes dict.lists tree nodes ≡ parents text_cmp
          (decoded_row_list dict.lists source.rows) (decoded_cell dict.lists u)
      parents_told =
          sym (map-map (λ k. decoded_cell dict.lists (cell k)) number nodes)
          ∙ nodes_alike dims tree dict source h dictionary rows_known same_dims ks (λ k m. ((each k).0 m).there)
          ∙ told_passing dims tree dict source h dictionary rows_known same_dims
          (λ p. is_parent nat_cmp source.rows p u)
          (λ p. is_parent text_cmp (decoded_row_list dict.lists source.rows) p (coded_cell (text_in dict.lists) 0 u))
          (λ p k. is_parent-coded nat_cmp_total numbers.nat_cmp-IsAntisymmetric text_total text_anti
          (tells dims tree dict source h dictionary rows_known same_dims) source.rows rows_known p u k
          (class_known dims tree dict source h dictionary rows_known same_dims u class))
          ks each rise
          ∙ ap (parents text_cmp (decoded_row_list dict.lists source.rows))
          (sym (told-known dict.lists u (omega (arith, long, same_dims))))
