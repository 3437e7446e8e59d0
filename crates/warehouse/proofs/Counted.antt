-- Rows of texts have as many classes, nodes and edges as their codes, and as the tree that is kept.
use Rattle.std.proofs.Common.{◌≡◌, ◌-◌, ◌∙◌, ℕ, suc, List, [], ◌∷◌, length, map, refl, sym, ap, arith, inl}
use Rattle.std.specs.List.{All, AllByRecursion, IsDistinct}
use Rattle.std.specs.Ordering.{nat_cmp}
use Rattle.std.specs.Str.{bytes_eq}
use Rattle.std.specs.Cmp.{nat_cmp_total}
use Rattle.std.specs.Cmp.Lexicographic.{lists_total}
use Rattle.std.specs.FinMap as finmap
use Rattle.std.specs.FinMap.{nat_cmp-IsAntisymmetric, slice_cmp-IsAntisymmetric}
use Rattle.cube_defs.specs.Rows.{Row}
use Rattle.cube_defs.specs.Text.{Text, text_cmp}
use Rattle.cube_defs.specs.Tree.{Tree, classes, links, nodes, tree_edges}
use Rattle.tree_search.specs.Found.{IsTreeOf}
use Rattle.cube_laws.specs.Recoding.{coded_row}
use Rattle.tree_laws.specs.Counts.{classes_in, links_in, tree_edges_in}
use Rattle.tree_laws.proofs.CallerLemmas.{one_tree, classes_counted, links_counted, nodes_counted, tree_edges_counted, classes_as_many}
use Rattle.tree_laws.proofs.CallerLemmas.{links_as_many, nodes_as_many, tree_edges_as_many}
use Rattle.value_dict.specs.Decoded.{RowsAreCodes, decoded_row, place_in}
use Rattle.value_dict.proofs.CallerLemmas.{places-apart}
use Rattle.warehouse.proofs.Decoding.{rows-back, rows-known}

-- there is one tree edge fewer than nodes, or none of both
edges-less : (dims : ℕ) (rows : List (Row ℕ)) → AllByRecursion (λ row. length row.tuple ≡ dims) rows
    → tree_edges nat_cmp rows ≡ length (nodes nat_cmp rows) - 1
edges-less dims [] wide = refl
edges-less dims (row ∷ rows) wide =
    let one : suc (tree_edges nat_cmp (row ∷ rows)) ≡ length (nodes nat_cmp (row ∷ rows))
    = one_tree nat_cmp_total nat_cmp-IsAntisymmetric dims (row ∷ rows) wide row (inl refl) in
    omega (arith, one)

module _ (lists : List (List Text)) (rows : List (Row ℕ)) (known : RowsAreCodes lists rows)
    (distinct : All (IsDistinct bytes_eq) lists) where
  -- what is counted of the codes is counted of the coded texts
  again : (count : List (Row ℕ) → ℕ)
      → count rows ≡ count (map (coded_row (place_in lists)) (map (decoded_row lists) rows))
  again count = ap count (sym (rows-back lists rows known distinct))

  classes-decoded : length (classes nat_cmp rows) ≡ length (classes text_cmp (map (decoded_row lists) rows))
  classes-decoded =
      again (λ rows. length (classes nat_cmp rows))
      ∙ classes_as_many (lists_total nat_cmp_total) (slice_cmp-IsAntisymmetric nat_cmp-IsAntisymmetric) nat_cmp_total
      nat_cmp-IsAntisymmetric (places-apart lists) (map (decoded_row lists) rows) (rows-known lists rows known)

  pub nodes-decoded : length (nodes nat_cmp rows) ≡ length (nodes text_cmp (map (decoded_row lists) rows))
  nodes-decoded =
      again (λ rows. length (nodes nat_cmp rows))
      ∙ nodes_as_many (lists_total nat_cmp_total) (slice_cmp-IsAntisymmetric nat_cmp-IsAntisymmetric) nat_cmp_total
      nat_cmp-IsAntisymmetric (places-apart lists) (map (decoded_row lists) rows) (rows-known lists rows known)

  tree_edges-decoded : tree_edges nat_cmp rows ≡ tree_edges text_cmp (map (decoded_row lists) rows)
  tree_edges-decoded =
      again (λ rows. tree_edges nat_cmp rows)
      ∙ tree_edges_as_many (lists_total nat_cmp_total) (slice_cmp-IsAntisymmetric nat_cmp-IsAntisymmetric) nat_cmp_total
      nat_cmp-IsAntisymmetric (places-apart lists) (map (decoded_row lists) rows) (rows-known lists rows known)

  links-decoded : links nat_cmp rows ≡ links text_cmp (map (decoded_row lists) rows)
  links-decoded =
      again (λ rows. links nat_cmp rows)
      ∙ links_as_many (lists_total nat_cmp_total) (slice_cmp-IsAntisymmetric nat_cmp-IsAntisymmetric) nat_cmp_total
      nat_cmp-IsAntisymmetric (places-apart lists) (map (decoded_row lists) rows) (rows-known lists rows known)

  module _ (dims measures : ℕ) (tree : Tree ℕ)
      (from : IsTreeOf dims tree (record { measures = measures; rows = rows })) where
    pub classes-kept : classes_in nat_cmp tree ≡ length (classes text_cmp (map (decoded_row lists) rows))
    classes-kept = classes_counted nat_cmp_total nat_cmp-IsAntisymmetric dims measures rows from.wide tree
        from.canonical ∙ classes-decoded

    pub nodes-kept : finmap.len tree ≡ length (nodes text_cmp (map (decoded_row lists) rows))
    nodes-kept = nodes_counted nat_cmp_total nat_cmp-IsAntisymmetric dims measures rows from.wide tree from.canonical
        ∙ nodes-decoded

    pub tree_edges-less : tree_edges_in nat_cmp tree ≡ finmap.len tree - 1
    tree_edges-less =
        tree_edges_counted nat_cmp_total nat_cmp-IsAntisymmetric dims measures rows from.wide tree from.canonical
        ∙ edges-less dims rows from.wide
        ∙ ap (λ (n : ℕ). n - 1)
        (sym (nodes_counted nat_cmp_total nat_cmp-IsAntisymmetric dims measures rows from.wide tree from.canonical))

    pub tree_edges-kept : tree_edges_in nat_cmp tree ≡ tree_edges text_cmp (map (decoded_row lists) rows)
    tree_edges-kept = tree_edges_counted nat_cmp_total nat_cmp-IsAntisymmetric dims measures rows from.wide tree
        from.canonical ∙ tree_edges-decoded

    pub links-kept : links_in nat_cmp tree ≡ links text_cmp (map (decoded_row lists) rows)
    links-kept = links_counted nat_cmp_total nat_cmp-IsAntisymmetric dims measures rows from.wide tree from.canonical
        ∙ links-decoded
