-- In the canonical tree of some rows each node's parent is there, and has the node's cell without its last value.
use Rattle.std.proofs.Common.{◌≡◌, ℕ, Option, Some, None, List, length, refl, sym, ap, subst, ◌∙◌}
use Rattle.std.specs.Prelude.{IsSome}
use Rattle.std.specs.Cmp.{nat_cmp_total}
use Rattle.std.specs.FinMap as map
use Rattle.std.specs.List.{AllByRecursion}
use Rattle.std.specs.Option.{option_and_then, option_map}
use Rattle.std.specs.Ordering.{nat_cmp}
use Rattle.cube_defs.specs.Cell.{Cell}
use Rattle.cube_defs.specs.Rows.{Row}
use Rattle.cube_defs.specs.Tree.{IsCanonical, Tree, cell_at, parent_cell_of}
use Rattle.cube_laws.proofs.CallerLemmas.{equality_by, node_closed}
use Rattle.qc_arena.specs.Map.{AreRooted}
use Rattle.tree_laws.proofs.CallerLemmas.{record_read, some_same}

cut_is : (cells : ℕ → Option (Cell ℕ)) (o : Option ℕ) (q : Option (Cell ℕ))
    → option_map cells o ≡ option_map (λ c. Some c) q → q ≡ option_and_then cells o
cut_is cells None None e = refl
cut_is cells None (Some c) e = absurd (cc e)
cut_is cells (Some p) None e = absurd (cc e)
cut_is cells (Some p) (Some c) e = sym (some_same e)

there_is : (cells : ℕ → Option (Cell ℕ)) (o : Option ℕ) (q : Option (Cell ℕ))
    → option_map cells o ≡ option_map (λ c. Some c) q → (p : ℕ) → o ≡ Some p → IsSome (cells p)
there_is cells o None e p s = let bad : Some (cells p) ≡ None = sym (ap (option_map cells) s) ∙ e in absurd (cc bad)
there_is cells o (Some c) e p s
    = subst (λ x. IsSome x) (sym (some_same (sym (ap (option_map cells) s) ∙ e))) refl

pub rooted : (dims measures : ℕ) (rows : List (Row ℕ)) (tree : Tree ℕ)
    → AllByRecursion (λ row. length row.tuple ≡ dims) rows → IsCanonical nat_cmp measures rows tree → AreRooted tree
rooted dims measures rows tree wide canonical k n g =
    let c = node_closed (equality_by nat_cmp_total map.nat_cmp-IsAntisymmetric) rows n.cell (canonical.each k n g).0 in
    let read = record_read nat_cmp_total map.nat_cmp-IsAntisymmetric dims measures rows wide tree canonical k n c.0 g
    c.1 in
    let parent : option_map (cell_at tree) n.parent ≡ option_map (λ c. Some c) (parent_cell_of nat_cmp n.cell)
    = ap (λ m. m.parent) read in
    record {
      there = there_is (cell_at tree) n.parent (parent_cell_of nat_cmp n.cell) parent;
      cut = cut_is (cell_at tree) n.parent (parent_cell_of nat_cmp n.cell) parent;
    }
