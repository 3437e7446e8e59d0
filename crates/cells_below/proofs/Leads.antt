-- Whether a search leads to a node.
use Rattle.std.proofs.Common.{◌≡◌, ℕ, nat_eq, eqb-true, eq-eqb, Option, Some, None, refl, sym, ap, ◌∙◌}
use Rattle.std.specs.Cmp.{both_ways}
use Rattle.std.specs.Option.{option_map, option_eq}
use Rattle.std.specs.Ordering.{nat_cmp, eq_by_cmp}
use Rattle.cube_defs.specs.Cell.{Cell, cell_eq}
use Rattle.cube_defs.specs.Tree.{Tree, cell_at}
use Rattle.cube_laws.proofs.CallerLemmas.{cell_eq-exact, cell_eq-same, code_equality}
use Rattle.tree_laws.proofs.CallerLemmas.{some_same}
use Rattle.tree_search.specs.Found.{IsTreeOf, IsNumberOfCell, TreeRows, closure_in}
use Rattle.cells_below.specs.Closed.{has_closure_in}

module _ (dims : ℕ) (tree : Tree ℕ) (k : ℕ) (u : Cell ℕ) (at : cell_at tree k ≡ Some u) where
  module _ (source : TreeRows) (h : IsTreeOf dims tree source) (c : Cell ℕ) where
    -- two nodes are the same where their cells are
    pub leads_some : (m : ℕ) → IsNumberOfCell tree (Some m) (closure_in source c)
        → nat_eq m k ≡ has_closure_in source u c
    leads_some m e = go (closure_in source c) refl e
      where
        go : (o : Option (Cell ℕ)) → closure_in source c ≡ o → Some (cell_at tree m) ≡ option_map (λ d. Some d) o
            → nat_eq m k ≡ has_closure_in source u c
        go None q s = cc
        go (Some w) q s =
            let own : cell_at tree m ≡ Some w = some_same s in
            both_ways _ _
            (λ e. let same : w ≡ u = some_same (sym own ∙ ap (cell_at tree) (eqb-true m k e) ∙ at) in
            ap (λ x. option_eq (cell_eq (eq_by_cmp nat_cmp)) x (Some u)) (q ∙ ap (λ x. Some x) same)
            ∙ cell_eq-same code_equality u)
            (λ e. let same : w ≡ u =
            cell_eq-exact code_equality w u
            (sym (ap (λ x. option_eq (cell_eq (eq_by_cmp nat_cmp)) x (Some u)) q) ∙ e) in
            eq-eqb m k (h.canonical.once m k u (own ∙ ap (λ x. Some x) same) at))
