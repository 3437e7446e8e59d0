-- Classes without their lower bounds, with the texts of their codes.
use Rattle.std.proofs.Common.{◌≡◌, ℕ, zero, suc, List, [], ◌∷◌, length, map, refl, sym, ap, ap₂, subst, ◌∙◌, arith, inl, inr}
use Rattle.std.specs.Prelude.{IsSome}
use Rattle.std.specs.List.{All}
use Rattle.std.specs.Ordering.{nat_cmp, eq_by_cmp}
use Rattle.std.proofs.lemmas.List.FromFn.{length-map-range_with_len}
use Rattle.cube_defs.specs.Answers as answers
use Rattle.cube_defs.specs.Rows.{Agg, agg, amounts_of, cov, part_of}
use Rattle.cube_defs.specs.Text.{Text, text_cmp}
use Rattle.cube_defs.specs.Tree.{Tree}
use Rattle.cube_laws.specs.Lists.{Among}
use Rattle.cube_laws.specs.Recoding.{RowsAreKnown}
use Rattle.cube_laws.proofs.CallerLemmas.{code_equality, equality_by, agg-coded}
use Rattle.cell_core.specs.declared.cell.NodeNo.{NodeNo}
use Rattle.lower_bounds.specs.Classes.{hit_in}
use Rattle.lower_bounds.specs.declared.class.ClassHit.{ClassHit}
use Rattle.qc_arena.specs.RecordReaders.{record_at}
use Rattle.tree_search.specs.Found.{IsTreeOf, TreeRows}
use Rattle.tree_search.proofs.CallerLemmas.{wide, cell_there}
use Rattle.iceberg_query.specs.Hits.{decoded_classes}
use Rattle.value_dict.specs.TextLists.{IsDictionary, TextLists}
use Rattle.value_dict.specs.Recoded.{has_code, decoded_row_list}
use Rattle.value_dict.specs.Decoded as telling
use Rattle.value_dict.proofs.CallerLemmas.{texts-known}
use Rattle.lower_bounds.proofs.CallerLemmas.{class_there, own_closure}
use Rattle.quotient_lattice.specs.Neighbours.{class_alone}
use Rattle.quotient_lattice.specs.DecodedNodes.{decoded_node, decoded_nodes}
use Rattle.quotient_lattice.proofs.NodesDecoded.{class_known, tells, text_anti, text_total, told_alike}

module _ (dims : ℕ) (tree : Tree ℕ) (dict : TextLists) (source : TreeRows) (h : IsTreeOf dims tree source)
    (dictionary : IsDictionary dict) (rows_known : RowsAreKnown (has_code dict.lists) source.rows)
    (same_dims : length dict.lists ≡ dims) where
  abbrev alone : NodeNo → answers.ClassHit ℕ
  alone node = class_alone nat_cmp source.measures source.rows (record_at tree node.0).cell

  one : (node : NodeNo) → IsSome (record_at tree node.0).class
      → telling.decoded_class dict.lists (alone node) ≡ class_alone text_cmp source.measures
      (decoded_row_list dict.lists source.rows) (decoded_node dict.lists tree node)
  one node some =
      let t = class_there tree node.0 some in
      let own = own_closure dims tree source h node.0 (record_at tree node.0).cell (cell_there tree node.0 t) some in
      let known = class_known dims tree dict source h dictionary rows_known same_dims
      (record_at tree node.0).cell own in
      ap (λ (a : Agg). let x : answers.ClassHit Text
      = record { upper = decoded_node dict.lists tree node; agg = a; lowers = [] } in x)
      (sym (agg-coded code_equality (equality_by text_total text_anti)
      (tells dims tree dict source h dictionary rows_known same_dims) source.rows rows_known source.measures
      (record_at tree node.0).cell known)
      ∙ ap (agg (eq_by_cmp text_cmp) source.measures (decoded_row_list dict.lists source.rows))
      (sym (told_alike dims tree dict source h dictionary rows_known same_dims node.0 t)))

  tellable : (node : NodeNo) → IsSome (record_at tree node.0).class
      → telling.IsDecodableClass dict.lists source.measures (alone node)
  tellable node some =
      let t = class_there tree node.0 some in
      let own = own_closure dims tree source h node.0 (record_at tree node.0).cell (cell_there tree node.0 t) some in
      record {
        upper = texts-known dict.lists (record_at tree node.0).cell
            (class_known dims tree dict source h dictionary rows_known same_dims (record_at tree node.0).cell own)
            (omega (arith, wide dims tree source h node.0 t, same_dims));
        lowers = λ k d l. absurd (omega arith);
        parts = length-map-range_with_len
            (λ m. part_of (amounts_of m (cov (eq_by_cmp nat_cmp) source.rows (record_at tree node.0).cell))) 0
            source.measures;
      }

  pub alone_told : (nodes : List NodeNo) (classes : List ClassHit)
      → ((node : NodeNo) → Among node nodes → IsSome (record_at tree node.0).class)
      → map hit_in classes ≡ map alone nodes
      → decoded_classes dict.lists classes
      ≡ map (class_alone text_cmp source.measures (decoded_row_list dict.lists source.rows))
      (decoded_nodes dict.lists tree nodes)
  alone_told [] [] f e = refl
  alone_told [] (x ∷ classes) f e = cc
  alone_told (n ∷ nodes) [] f e = cc
  alone_told (n ∷ nodes) (x ∷ classes) f e =
      let first : hit_in x ≡ alone n = cc in
      let rest : map hit_in classes ≡ map alone nodes = cc in
      ap₂ (λ (y : answers.ClassHit Text) (ys : List (answers.ClassHit Text)). y ∷ ys)
      (ap (telling.decoded_class dict.lists) first
      ∙ one n (f n (inl refl))) (alone_told nodes classes (λ m k. f m (inr k)) rest)

  pub alone_tellable : (nodes : List NodeNo) (classes : List ClassHit)
      → ((node : NodeNo) → Among node nodes → IsSome (record_at tree node.0).class)
      → map hit_in classes ≡ map alone nodes
      → All (λ class. telling.IsDecodableClass dict.lists source.measures (hit_in class)) classes
  alone_tellable [] [] f e = λ k d l. absurd (omega arith)
  alone_tellable [] (x ∷ classes) f e = cc
  alone_tellable (n ∷ nodes) [] f e = cc
  alone_tellable (n ∷ nodes) (x ∷ classes) f e =
      let first : hit_in x ≡ alone n = cc in
      let rest : map hit_in classes ≡ map alone nodes = cc in
      go (subst (telling.IsDecodableClass dict.lists source.measures) (sym first) (tellable n (f n (inl refl))))
      (alone_tellable nodes classes (λ m k. f m (inr k)) rest)
    where
      go : telling.IsDecodableClass dict.lists source.measures (hit_in x)
          → All (λ class. telling.IsDecodableClass dict.lists source.measures (hit_in class)) classes
          → All (λ class. telling.IsDecodableClass dict.lists source.measures (hit_in class)) (x ∷ classes)
      go here more zero d l = here
      go here more (suc k) d l = more k d (omega arith)
