-- The cell of a class is its own closure.
use Rattle.std.proofs.Common.{◌≡◌, ℕ, Bool, true, false, cond, Option, Some, None, is_some, refl, sym, ap, subst, ◌∙◌, true≢false}
use Rattle.std.specs.Prelude.{IsSome}
use Rattle.std.specs.Cmp.{nat_cmp_total}
use Rattle.std.specs.FinMap as map
use Rattle.std.specs.Option.{option_eq}
use Rattle.std.specs.Ordering.{nat_cmp, eq_by_cmp}
use Rattle.cube_defs.specs.Cell.{Cell, cell_eq}
use Rattle.cube_defs.specs.Rows.{agg, closure, is_class}
use Rattle.cube_defs.specs.Tree.{Node, Tree, cell_at}
use Rattle.cube_laws.proofs.CallerLemmas.{node_closed, code_equality}
use Rattle.qc_arena.specs.RecordReaders.{record_at, record_or}
use Rattle.tree_laws.proofs.CallerLemmas.{record_read}
use Rattle.tree_search.specs.Found.{IsTreeOf, TreeRows}
use Rattle.tree_search.proofs.CallerLemmas.{cell_of, there_is}
use Rattle.cells_below.specs.Closed.{has_closure_in}

-- a class is at a node
pub class_there : (tree : Tree ℕ) (k : ℕ) → IsSome (record_at tree k).class → IsSome (map.get tree k)
class_there tree k t = go (map.get tree k) refl
  where
    go : (o : Option (Node ℕ ℕ)) → map.get tree k ≡ o → IsSome (map.get tree k)
    go None e = absurd (true≢false (sym t ∙ ap (λ o. is_some (record_or o).class) e))
    go (Some n) e = subst (λ o. IsSome o) (sym e) refl

module _ (dims : ℕ) (tree : Tree ℕ) (source : TreeRows) (h : IsTreeOf dims tree source) (k : ℕ) where
  module _ (t : IsSome (map.get tree k)) where
    abbrev p : Cell ℕ
    p = (record_at tree k).cell

    -- a node's cell has a closure
    pub closed : (u : Cell ℕ) × (closure (eq_by_cmp nat_cmp) source.rows p ≡ Some u)
    closed = let u = node_closed code_equality source.rows p
        (h.canonical.each k (record_at tree k) (there_is tree k t)).0 in (u.0, u.1)

    -- its class, if it is one
    pub class_read : (record_at tree k).class ≡ cond (is_class (eq_by_cmp nat_cmp) source.rows p)
        (Some (agg (eq_by_cmp nat_cmp) source.measures source.rows p)) None
    class_read =
        let u : (u : Cell ℕ) × (closure (eq_by_cmp nat_cmp) source.rows p ≡ Some u) = closed in
        ap (λ n. n.class) (record_read nat_cmp_total map.nat_cmp-IsAntisymmetric dims source.measures source.rows h.wide
        tree h.canonical k (record_at tree k) u.0 (there_is tree k t) u.1)
        ∙ ap (λ o. cond (option_eq (cell_eq (eq_by_cmp nat_cmp)) o (Some p))
        (Some (agg (eq_by_cmp nat_cmp) source.measures source.rows p)) None) (sym u.1)

  -- where there is a class
  pub own_closure : (u : Cell ℕ) → cell_at tree k ≡ Some u → IsSome (record_at tree k).class
      → has_closure_in source u u ≡ true
  own_closure u at t = subst (λ c. has_closure_in source c c ≡ true) (cell_of tree k u at)
      (go (is_class (eq_by_cmp nat_cmp) source.rows (record_at tree k).cell) refl)
    where
      go : (b : Bool) → is_class (eq_by_cmp nat_cmp) source.rows (record_at tree k).cell ≡ b
          → is_class (eq_by_cmp nat_cmp) source.rows (record_at tree k).cell ≡ true
      go true e = e
      go false e = absurd (true≢false (sym t
          ∙ ap is_some (class_read (class_there tree k t)
          ∙ ap (λ b. cond b (Some (agg (eq_by_cmp nat_cmp) source.measures source.rows (record_at tree k).cell)) None)
          e)))
