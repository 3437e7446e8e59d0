-- The nodes of the classes that pass a test, with the texts of their codes.
use Rattle.std.proofs.Common.{◌≡◌, ◌↔◌, ℕ, Bool, true, Some, List, [], ◌∷◌, length, map, filter, refl, sym, ap, ap₂, subst, ◌∙◌, arith, inl}
use Rattle.std.proofs.Common.{inr}
use Rattle.std.specs.Prelude.{IsSome}
use Rattle.std.specs.Ordering.{nat_cmp, eq_by_cmp}
use Rattle.std.specs.Cmp.{IsTotalOrder, nat_cmp_total}
use Rattle.std.specs.Cmp.Lexicographic.{lists_total}
use Rattle.std.specs.FinMap as numbers
use Rattle.std.specs.List.Sorted.{IsStrictlySortedBy}
use Rattle.cube_defs.specs.Text.{Text, text_cmp}
use Rattle.cube_defs.specs.Cell.{Cell, cell_cmp, depth, cell_prefix}
use Rattle.cube_defs.specs.Rows.{is_class}
use Rattle.cube_defs.specs.Tree.{Tree, cell_at, classes}
use Rattle.cube_laws.specs.Lists.{Among}
use Rattle.cube_laws.specs.Recoding.{AreKnown, RowsAreKnown, TellsApart, coded_cell}
use Rattle.cube_laws.proofs.CallerLemmas.{is_class-is, cell_anti, cell_total, rises_same, classes-is, classes_rise, rises-filter}
use Rattle.cube_laws.proofs.CallerLemmas.{among_filter, among_map, filter_among, map_among, class_prefixes, code_equality, classes-coded}
use Rattle.cube_laws.proofs.CallerLemmas.{known-closed}
use Rattle.qc_arena.specs.RecordReaders.{record_at}
use Rattle.tree_laws.proofs.CallerLemmas.{cell_prefix-beyond, there}
use Rattle.tree_search.specs.Found.{IsTreeOf, TreeRows}
use Rattle.tree_search.proofs.CallerLemmas.{wide, cell_of}
use Rattle.value_dict.specs.TextLists.{IsDictionary, TextLists}
use Rattle.value_dict.specs.Recoded.{has_code, text_in, decoded_row_list}
use Rattle.value_dict.specs.Decoded as telling
use Rattle.value_dict.proofs.CallerLemmas.{texts-apart, told-known}

pub text_total : IsTotalOrder text_cmp
text_total = lists_total nat_cmp_total

pub text_anti : numbers.IsAntisymmetric text_cmp
text_anti = numbers.slice_cmp-IsAntisymmetric numbers.nat_cmp-IsAntisymmetric

module _ (dims : ℕ) (tree : Tree ℕ) (source : TreeRows) (h : IsTreeOf dims tree source) where
  -- the node of a class
  pub class_node : (c : Cell ℕ) → is_class (eq_by_cmp nat_cmp) source.rows c ≡ true → (k : ℕ)
      × IsSome (numbers.get tree k) × ((record_at tree k).cell ≡ c)
  class_node c e =
      let whole : cell_prefix (depth c) c ≡ c = cell_prefix-beyond (depth c) c (omega arith) in
      let f : (k : ℕ) × (cell_at tree k ≡ Some (cell_prefix (depth c) c))
      = h.canonical.all (cell_prefix (depth c) c) (class_prefixes code_equality source.rows (depth c) c e) in
      let at : cell_at tree f.0 ≡ Some c = f.1 ∙ ap (λ d. Some d) whole in
      (f.0, there tree f.0 c at, cell_of tree f.0 c at)

module _ (dims : ℕ) (tree : Tree ℕ) (dict : TextLists) (source : TreeRows) (h : IsTreeOf dims tree source)
    (dictionary : IsDictionary dict) (rows_known : RowsAreKnown (has_code dict.lists) source.rows)
    (same_dims : length dict.lists ≡ dims) where
  pub tells : TellsApart (has_code dict.lists) (text_in dict.lists)
  tells = texts-apart dict.lists dictionary.distinct

  abbrev cell : ℕ → Cell ℕ
  cell k = (record_at tree k).cell

  -- the cell of a node, with texts
  abbrev told : ℕ → Cell Text
  told k = coded_cell (text_in dict.lists) 0 (cell k)

  pub class_known : (c : Cell ℕ) → is_class (eq_by_cmp nat_cmp) source.rows c ≡ true
      → AreKnown (has_code dict.lists) 0 c
  class_known c e = known-closed code_equality (has_code dict.lists) source.rows c c rows_known
      ((is_class-is code_equality source.rows c).0 e)

  pub told_alike : (k : ℕ) → IsSome (numbers.get tree k) → telling.decoded_cell dict.lists (cell k) ≡ told k
  told_alike k t = told-known dict.lists (cell k) (omega (arith, wide dims tree source h k t, same_dims))

  -- what is known of the node of a class that passes
  pub record Passes (P : Cell ℕ → Bool) (k : ℕ) : Type 0 where
    pub there : IsSome (numbers.get tree k)
    pub class : is_class (eq_by_cmp nat_cmp) source.rows (cell k) ≡ true
    pub passes : P (cell k) ≡ true

  module _ (P : Cell ℕ → Bool) (P' : Cell Text → Bool) (same : (c : Cell ℕ) → AreKnown (has_code dict.lists) 0 c
      → P' (coded_cell (text_in dict.lists) 0 c) ≡ P c) (ks : List ℕ) (each : (k : ℕ) → Among k ks ↔ Passes P k) where
    -- in cell order they are the classes that pass
    pub told_passing : IsStrictlySortedBy (cell_cmp text_cmp) (map told ks)
        → map told ks ≡ filter P' (classes text_cmp (decoded_row_list dict.lists source.rows))
    told_passing rise =
        rises_same (cell_total text_total text_anti) (cell_anti text_total text_anti) (map told ks)
        (filter P' (classes text_cmp (decoded_row_list dict.lists source.rows)))
        rise (rises-filter (cell_cmp text_cmp) P' (classes text_cmp (decoded_row_list dict.lists source.rows))
        (classes_rise text_total text_anti (decoded_row_list dict.lists source.rows)))
        into from
      where
        into : (x : Cell Text) → Among x (map told ks)
            → Among x (filter P' (classes text_cmp (decoded_row_list dict.lists source.rows)))
        into x m =
            let a : (k : ℕ) × Among k ks × (x ≡ told k) = among_map told x ks m in
            let p : Passes P a.0 = (each a.0).0 a.1 in
            let c : Among (cell a.0) (classes nat_cmp source.rows)
            = (classes-is nat_cmp_total numbers.nat_cmp-IsAntisymmetric source.rows dims h.wide
            (cell a.0)).1 p.class in
            among_filter P' x (classes text_cmp (decoded_row_list dict.lists source.rows))
            ((classes-coded nat_cmp_total numbers.nat_cmp-IsAntisymmetric text_total text_anti tells source.rows
            rows_known x).1 (cell a.0, c, a.2))
            (ap P' a.2 ∙ same (cell a.0) (class_known (cell a.0) p.class) ∙ p.passes)

        from : (x : Cell Text) → Among x (filter P' (classes text_cmp (decoded_row_list dict.lists source.rows)))
            → Among x (map told ks)
        from x m =
            let f = filter_among P' x (classes text_cmp (decoded_row_list dict.lists source.rows)) m in
            let c : (c : Cell ℕ) × Among c (classes nat_cmp source.rows) × (x ≡ coded_cell (text_in dict.lists) 0 c)
            = (classes-coded nat_cmp_total numbers.nat_cmp-IsAntisymmetric text_total text_anti tells source.rows
            rows_known x).0 f.0 in
            let e : is_class (eq_by_cmp nat_cmp) source.rows c.0 ≡ true
            = (classes-is nat_cmp_total numbers.nat_cmp-IsAntisymmetric source.rows dims h.wide c.0).0 c.1 in
            let k : (k : ℕ) × IsSome (numbers.get tree k) × (cell k ≡ c.0) = class_node dims tree source h c.0 e in
            let p : P (cell k.0) ≡ true = ap P k.2 ∙ sym (same c.0 (class_known c.0 e)) ∙ ap P' (sym c.2) ∙ f.1 in
            let is : x ≡ told k.0 = c.2 ∙ ap (coded_cell (text_in dict.lists) 0) (sym k.2) in
            subst (λ y. Among y (map told ks)) (sym is)
            (map_among told k.0 ks ((each k.0).1
            (record { there = k.1; class = ap (is_class (eq_by_cmp nat_cmp) source.rows) k.2 ∙ e; passes = p })))

  -- the cells of nodes that are there
  pub nodes_alike : (ks : List ℕ) → ((k : ℕ) → Among k ks → IsSome (numbers.get tree k))
      → map (λ k. telling.decoded_cell dict.lists (cell k)) ks ≡ map told ks
  nodes_alike [] f = refl
  nodes_alike (k ∷ ks) f = ap₂ (λ (x : Cell Text) (xs : List (Cell Text)). x ∷ xs) (told_alike k (f k (inl refl)))
      (nodes_alike ks (λ l m. f l (inr m)))
