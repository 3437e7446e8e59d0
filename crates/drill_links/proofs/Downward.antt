-- One dimension of a way down.
use Rattle.std.proofs.Common.{◌≡◌, ℕ, zero, suc, ◌+◌, ◌≤◌, Option, Some, None, IsSome, [], ◌∷◌, slice_index_or, nat_cmp, refl, sym, ap, ◌∙◌}
use Rattle.std.proofs.Common.{arith}
use Rattle.std.specs.Ordering.{eq_by_cmp}
use Rattle.std.specs.Option.{option_map}
use Rattle.cell_core.specs.declared.cell.NodeNo.{NodeNo}
use Rattle.cube_defs.specs.Cell.{Cell, cell_prefix}
use Rattle.cube_defs.specs.Tree.{Tree, cell_at}
use Rattle.tree_laws.specs.Walk.{target_at}
use Rattle.qc_arena.specs.RecordReaders.{number, record_at}
use Rattle.drill_links.specs.Way.{IsWay, LeadsTo}

-- a prefix without a value at its end is the one before it
prefix_same : (j : ℕ) (t : Cell ℕ) → slice_index_or t j None ≡ None → cell_prefix (suc j) t ≡ cell_prefix j t
prefix_same j [] e = refl
prefix_same zero (x ∷ t) e = ap (λ y. y ∷ cell_prefix 0 t) e
prefix_same (suc j) (x ∷ t) e = ap (λ c. x ∷ c) (prefix_same j t e)

-- where t has no value the node stays
pub stays : (t : Cell ℕ) (j : ℕ) (o : Option (Cell ℕ)) → None ≡ slice_index_or t j None → o ≡ Some (cell_prefix j t)
    → o ≡ Some (cell_prefix (j + 1) t)
stays t j o any at =
    let next : suc j ≡ j + 1 = omega arith in
    at ∙ ap (λ c. Some c) (sym (prefix_same j t (sym any)) ∙ ap (λ i. cell_prefix i t) next)

-- where it has one, the node has an edge to the next
module _ (tree : Tree ℕ) (t : Cell ℕ) (first last : ℕ) (way : IsWay tree t first last) (j k v : ℕ) (from : first ≤ j)
    (within : j ≤ last) (has : Some v ≡ slice_index_or t j None) (at : cell_at tree k ≡ Some (cell_prefix j t)) where
  goes : LeadsTo tree k j v (cell_prefix (suc j) t)
  goes = way.leads j v k from within (sym has) at

  pub edge_there : (r : Option NodeNo)
      → option_map number r ≡ target_at (eq_by_cmp nat_cmp) j v (record_at tree k).edges → IsSome r
  edge_there None e = let bad : None ≡ Some goes.target = e ∙ goes.edge in cc
  edge_there (Some l) e = refl

  pub edge_to : (r : Option NodeNo) (l : NodeNo)
      → option_map number r ≡ target_at (eq_by_cmp nat_cmp) j v (record_at tree k).edges → r ≡ Some l
      → cell_at tree l.0 ≡ Some (cell_prefix (j + 1) t)
  edge_to r l e is =
      let same : Some l.0 ≡ Some goes.target = ap (option_map number) (sym is) ∙ e ∙ goes.edge in
      let next : suc j ≡ j + 1 = omega arith in
      ap (cell_at tree) (cc) ∙ goes.is ∙ ap (λ i. Some (cell_prefix i t)) next
