-- The classes that are met on the way from a class to those that are asked for.
use Rattle.std.specs.Prelude.{◌≡◌, ◌↔◌, ℕ, Bool, true, false, ◌||◌, not, cond, List, [], ◌∷◌, ◌++◌, nat_eq, take}
use Rattle.std.specs.List.{list_all}
use Rattle.std.specs.Ordering.{eq_by_cmp, nat_cmp}
use Rattle.cube_defs.specs.Cell as defs
use Rattle.cube_defs.specs.Tree.{Tree}
use Rattle.cube_laws.specs.Lists.{Among}
use Rattle.indexmap.specs.IndexSet.{insert_all}
use Rattle.qc_arena.specs.RecordReaders.{record_at}
use Rattle.tree_search.specs.Found.{TreeRows}
use Rattle.iceberg_query.specs.declared.ask.Ask.{Ask}
use Rattle.iceberg_query.specs.Asked.{ask_in}
use Rattle.iceberg_query.specs.Subtree.{is_wanted}
use Rattle.quotient_lattice.specs.declared.node_cells.NodeCell.{NodeCell}
use Rattle.quotient_lattice.specs.Neighbours.{is_parent, is_rolled}
use Rattle.quotient_lattice.specs.NodeCells.{IsPassing}

-- the class of the node is asked for
abbrev pub wants : Tree ℕ → Ask → ℕ → Bool
wants tree ask k = is_wanted ask (record_at tree k).class

-- a class that is asked for is met; of another the children are seen
pub record IsVisited (tree : Tree ℕ) (source : TreeRows) (ask : Ask) (k : ℕ)
    (before after met more : List ℕ) : Type 0 where
  pub met_more : more ≡ met ++ cond (wants tree ask k) (k ∷ []) []
  pub found : List ℕ
  pub seen_more : after ≡ insert_all nat_eq before found
  pub each : (j : ℕ) → Among j found
      ↔ ((wants tree ask k ≡ false)
      × IsPassing tree source (λ d. is_parent nat_cmp source.rows (record_at tree k).cell d) j)

-- y is no other that generalizes x
abbrev pub is_no_generalization : NodeCell → NodeCell → Bool
is_no_generalization x y = not (defs.leq nat_eq y.cell x.cell) || nat_eq y.node.0 x.node.0

-- none of them is another that generalizes it
abbrev pub is_most_general_among : List NodeCell → NodeCell → Bool
is_most_general_among xs x = list_all (is_no_generalization x) xs

-- met are classes from the one at `start` on that are asked for, among them each most general one
pub record AreMet (tree : Tree ℕ) (source : TreeRows) (ask : Ask) (start : ℕ) (met : List ℕ) : Type 0 where
  pub each : (k : ℕ) → Among k met
      → IsPassing tree source (λ d. defs.leq (eq_by_cmp nat_cmp) (record_at tree start).cell d) k
      × (wants tree ask k ≡ true)
  pub all : (k : ℕ) → IsPassing tree source
      (is_rolled nat_cmp source.measures source.rows (ask_in ask) (record_at tree start).cell) k → Among k met

-- what is seen, of which the first i are visited
pub record AreQueued (tree : Tree ℕ) (source : TreeRows) (ask : Ask) (start : ℕ) (seen : List ℕ) (i : ℕ) : Type 0 where
  pub above : (k : ℕ) → Among k seen
      → IsPassing tree source (λ d. defs.leq (eq_by_cmp nat_cmp) (record_at tree start).cell d) k
  pub on : (k : ℕ) → Among k (take i seen) → wants tree ask k ≡ false → (j : ℕ)
      → IsPassing tree source (λ d. is_parent nat_cmp source.rows (record_at tree k).cell d) j → Among j seen
