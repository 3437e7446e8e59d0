-- The class at the node that a search finds.
use Rattle.std.proofs.Common.{◌≡◌, ℕ, Option, Some, None, refl, sym, ap, ◌∙◌}
use Rattle.std.specs.Prelude.{IsSome, option_map}
use Rattle.std.specs.Cmp.{nat_cmp_total}
use Rattle.std.specs.FinMap as map
use Rattle.std.specs.Ordering.{nat_cmp, eq_by_cmp}
use Rattle.aggregates.specs.declared.agg.Agg as shown
use Rattle.aggregates.specs.Views.{agg_in}
use Rattle.cube_defs.specs.Cell.{Cell}
use Rattle.cube_defs.specs.Rows.{Agg, agg}
use Rattle.cube_defs.specs.Tree.{Tree, cell_at}
use Rattle.cube_laws.proofs.CallerLemmas.{closure_idem, code_equality}
use Rattle.qc_arena.specs.RecordReaders.{record_at}
use Rattle.tree_laws.proofs.CallerLemmas.{class_is, some_same}
use Rattle.tree_search.specs.Found.{IsTreeOf, IsNumberOfCell, TreeRows, closure_in}
use Rattle.tree_search.proofs.CallerLemmas.{cell_of, there_is}

module _ (dims : ℕ) (tree : Tree ℕ) (source : TreeRows) (h : IsTreeOf dims tree source) (c : Cell ℕ) (k : ℕ)
    (t : IsSome (map.get tree k)) (e : IsNumberOfCell tree (Some k) (closure_in source c)) where
  -- the node's cell is the closure
  closed : closure_in source c ≡ Some (record_at tree k).cell
  closed = go (closure_in source c) refl e
    where
      go : (o : Option (Cell ℕ)) → closure_in source c ≡ o → Some (cell_at tree k) ≡ option_map (λ d. Some d) o
          → closure_in source c ≡ Some (record_at tree k).cell
      go None q s = cc
      go (Some u) q s = q ∙ ap (λ x. Some x) (sym (cell_of tree k u (some_same s)))

  pub class-there : (record_at tree k).class
      ≡ Some (agg (eq_by_cmp nat_cmp) source.measures source.rows (record_at tree k).cell)
  class-there =
      class_is nat_cmp_total map.nat_cmp-IsAntisymmetric dims source.measures source.rows h.wide tree h.canonical k
      (record_at tree k) (there_is tree k t) (record_at tree k).cell
      (closure_idem code_equality source.rows c (record_at tree k).cell closed)

-- what is seen of a total tells that there is one
pub some-total : (total : Option shown.Agg) (a : Agg) → option_map agg_in total ≡ Some a → IsSome total
some-total None a e = cc
some-total (Some t) a e = refl
