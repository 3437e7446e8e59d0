-- Nodes in cell order are the classes that pass, with the texts of their codes.
use Rattle.std.proofs.Common.{◌≡◌, ◌↔◌, ℕ, Bool, true, false, List, [], ◌∷◌, Some, length, map, filter, refl, sym, ap, ap₂, subst, ◌∙◌}
use Rattle.std.proofs.Common.{true≢false, inl, inr, nat_eq, eq-eqb}
use Rattle.std.specs.Prelude.{IsSome}
use Rattle.std.specs.declared.cmp.Ordering.TheVariants.{Less}
use Rattle.std.specs.Ordering.{is_eq}
use Rattle.std.specs.Cmp.{IsTotalOrder, on_total}
use Rattle.std.specs.FinMap as numbers
use Rattle.std.specs.List.{All, AllByRecursion, IsDistinct}
use Rattle.std.specs.List.Sorted.{IsPermutation, IsSortedBy, IsStrictlySortedBy}
use Rattle.std.proofs.lemmas.Bool.{false_from_ne_true}
use Rattle.std.proofs.lemmas.List.Sorted.{IsPermutation-sym}
use Rattle.std.proofs.lemmas.Simd.{map-map}
use Rattle.cube_defs.specs.Text.{Text, text_cmp}
use Rattle.cube_defs.specs.Cell.{Cell, cell_cmp}
use Rattle.cube_defs.specs.Tree.{Tree, classes}
use Rattle.cube_laws.specs.Lists.{Among}
use Rattle.cube_laws.specs.Recoding.{AreKnown, RowsAreKnown, coded_cell}
use Rattle.cube_laws.proofs.CallerLemmas.{cell_anti, cell_total, all_among, among_all, among_map, map_among, code_equality, equality_by}
use Rattle.cube_laws.proofs.CallerLemmas.{is_equal, coded-apart}
use Rattle.cell_core.specs.declared.cell.NodeNo.{NodeNo}
use Rattle.qc_arena.specs.RecordReaders.{record_at}
use Rattle.tree_search.specs.Found.{IsTreeOf, TreeRows}
use Rattle.tree_search.proofs.CallerLemmas.{cell_there}
use Rattle.value_dict.specs.TextLists.{IsDictionary, TextLists}
use Rattle.value_dict.specs.Decoded as telling
use Rattle.value_dict.specs.Recoded.{has_code, text_in, decoded_row_list}
use Rattle.iceberg_query.proofs.CallerLemmas.{among_permutation, flips, once_permutation, sorted_rises}
use Rattle.quotient_lattice.specs.declared.node_cells.NodeCell.{NodeCell}
use Rattle.quotient_lattice.specs.NodeCells.{AreAt, IsPassing, is_before, node_of, number_of, place_cmp, decoded_node_cell}
use Rattle.quotient_lattice.specs.DecodedNodes.{decoded_node, decoded_nodes}
use Rattle.quotient_lattice.proofs.NodesDecoded.{Passes, class_known, nodes_alike, tells, text_anti, text_total, told_passing}
use Rattle.quotient_lattice.proofs.ParentNodes.{class_some}

pub place_total : (lists : List (List Text)) → IsTotalOrder (place_cmp lists)
place_total lists = on_total (decoded_node_cell lists) (cell_total text_total text_anti)

module _ (dims : ℕ) (tree : Tree ℕ) (source : TreeRows) (h : IsTreeOf dims tree source) (P : Cell ℕ
    → Bool) (found placed : List NodeCell) (nodes : List NodeNo) (at : AreAt tree found)
    (once : IsDistinct nat_eq (map number_of found)) (same : IsPermutation found placed)
    (are : nodes ≡ map node_of placed) where
  abbrev cell : ℕ → Cell ℕ
  cell k = (record_at tree k).cell

  back : (x : NodeCell) → Among x placed → Among x found
  back = among_permutation found placed same

  module _ (each : (k : ℕ) → Among k (map number_of found) ↔ IsPassing tree source P k) where
    pub nodes_are_classes : All (λ (n : NodeNo). IsSome (record_at tree n.0).class) nodes
    nodes_are_classes = subst (All (λ (n : NodeNo). IsSome (record_at tree n.0).class)) (sym are)
        (among_all _ (map node_of placed) (λ n m.
        let x : (x : NodeCell) × Among x placed × (n ≡ node_of x) = among_map node_of n placed m in
        let p = (each (number_of x.0)).0 (map_among number_of x.0 found (back x.0 x.1)) in
        subst (λ (n : NodeNo). IsSome (record_at tree n.0).class) (sym x.2)
        (class_some dims tree source h (number_of x.0) p.there p.class)))

    module _ (dict : TextLists) (dictionary : IsDictionary dict)
        (rows_known : RowsAreKnown (has_code dict.lists) source.rows) (same_dims : length dict.lists ≡ dims) where
      abbrev told : ℕ → Cell Text
      told k = coded_cell (text_in dict.lists) 0 (cell k)

      abbrev ks : List ℕ
      ks = map number_of placed

      here : (k : ℕ) → Among k ks ↔ Passes dims tree dict source h dictionary rows_known same_dims P k
      here k = (
        λ m.
            let x : (x : NodeCell) × Among x placed × (k ≡ number_of x) = among_map number_of k placed m in
            let p = (each k).0 (subst (λ j. Among j (map number_of found)) (sym x.2)
            (map_among number_of x.0 found (back x.0 x.1))) in
            record { there = p.there; class = p.class; passes = p.passes },
        λ p.
            let m : Among k (map number_of found)
            = (each k).1 (record { there = p.there; class = p.class; passes = p.passes }) in
            let x : (x : NodeCell) × Among x found × (k ≡ number_of x) = among_map number_of k found m in
            subst (λ j. Among j ks) (sym x.2)
            (map_among number_of x.0 placed
            (among_permutation placed found (IsPermutation-sym found placed same) x.0 x.1)),
      )

      -- the cell that goes with a node is its own
      own : (x : NodeCell) → Among x found → cell (number_of x) ≡ x.cell
      own x m = all_among (λ (x : NodeCell). cell (number_of x) ≡ x.cell) found at x m

      known : (x : NodeCell) → Among x found → AreKnown (has_code dict.lists) 0 (cell (number_of x))
      known x m = class_known dims tree dict source h dictionary rows_known same_dims (cell (number_of x))
          ((each (number_of x)).0 (map_among number_of x found m)).class

      there_of : (x : NodeCell) → Among x found → IsSome (numbers.get tree (number_of x))
      there_of x m = ((each (number_of x)).0 (map_among number_of x found m)).there

      abbrev ties : NodeCell → NodeCell → Bool
      ties x y = is_eq (place_cmp dict.lists x y)

      -- two of one place are one node
      one_node : (x y : NodeCell) → Among x found → Among y found → ties x y ≡ true → number_of x ≡ number_of y
      one_node x y m n e =
          let places : decoded_node_cell dict.lists x ≡ decoded_node_cell dict.lists y
          = cell_anti text_total text_anti (decoded_node_cell dict.lists x) (decoded_node_cell dict.lists y)
          (is_equal (place_cmp dict.lists x y) e) in
          let cells : cell (number_of x) ≡ cell (number_of y)
          = coded-apart code_equality (equality_by text_total text_anti)
          (tells dims tree dict source h dictionary rows_known same_dims) (cell (number_of x)) (cell (number_of y))
          (known x m) (known y n)
          (ap (coded_cell (text_in dict.lists) 0) (own x m) ∙ places
          ∙ ap (coded_cell (text_in dict.lists) 0) (sym (own y n))) in
          h.canonical.once (number_of x) (number_of y) (cell (number_of y))
          (cell_there tree (number_of x) (there_of x m) ∙ ap (λ c. Some c) cells)
          (cell_there tree (number_of y) (there_of y n))

      once_places : (xs : List NodeCell) → ((x : NodeCell) → Among x xs → Among x found)
          → IsDistinct nat_eq (map number_of xs) → IsDistinct ties xs
      unfolding IsDistinct
      once_places [] f o = tt
      once_places (x ∷ xs) f o = (behind xs (λ y m. f y (inr m)) o.0, once_places xs (λ y m. f y (inr m)) o.1)
        where
          behind : (ys : List NodeCell) → ((y : NodeCell) → Among y ys → Among y found)
              → AllByRecursion (λ k. nat_eq (number_of x) k ≡ false) (map number_of ys)
              → AllByRecursion (λ y. ties x y ≡ false) ys
          behind [] g o = tt
          behind (y ∷ ys) g o = (
            false_from_ne_true _ (λ e. true≢false
                (sym (eq-eqb (number_of x) (number_of y) (one_node x y (f x (inl refl)) (g y (inl refl)) e)) ∙ o.0)),
            behind ys (λ z m. g z (inr m)) o.1,
          )

      rises : (xs : List NodeCell) → ((x : NodeCell) → Among x xs → Among x found)
          → IsStrictlySortedBy (place_cmp dict.lists) xs
          → IsStrictlySortedBy (cell_cmp text_cmp) (map told (map number_of xs))
      unfolding IsStrictlySortedBy
      rises [] f s = tt
      rises (x ∷ xs) f s = (behind xs (λ y m. f y (inr m)) s.0, rises xs (λ y m. f y (inr m)) s.1)
        where
          behind : (ys : List NodeCell) → ((y : NodeCell) → Among y ys → Among y found)
              → AllByRecursion (λ y. place_cmp dict.lists x y ≡ Less) ys
              → AllByRecursion (λ c. cell_cmp text_cmp (told (number_of x)) c ≡ Less) (map told (map number_of ys))
          behind [] g a = tt
          behind (y ∷ ys) g a = (
            ap₂ (λ c d. cell_cmp text_cmp (coded_cell (text_in dict.lists) 0 c)
                (coded_cell (text_in dict.lists) 0 d)) (own x (f x (inl refl))) (own y (g y (inl refl))) ∙ a.0,
            behind ys (λ z m. g z (inr m)) a.1,
          )

      pub nodes_told : (P' : Cell Text → Bool)
          → ((c : Cell ℕ) → AreKnown (has_code dict.lists) 0 c → P' (coded_cell (text_in dict.lists) 0 c) ≡ P c)
          → IsSortedBy (is_before dict.lists) placed
          → decoded_nodes dict.lists tree nodes ≡ filter P' (classes text_cmp (decoded_row_list dict.lists source.rows))
      nodes_told P' alike sorted =
          ap (decoded_nodes dict.lists tree) are
          ∙ map-map (decoded_node dict.lists tree) node_of placed
          ∙ sym (map-map (λ k. telling.decoded_cell dict.lists (cell k)) number_of placed)
          ∙ nodes_alike dims tree dict source h dictionary rows_known same_dims ks (λ k m. ((here k).0 m).there)
          ∙ told_passing dims tree dict source h dictionary rows_known same_dims P P' alike ks here
          (rises placed back (sorted_rises (place_cmp dict.lists) (place_total dict.lists) placed sorted
          (once_permutation ties (flips (place_cmp dict.lists) (place_total dict.lists)) found placed same
          (once_places found (λ x m. m) once))))
