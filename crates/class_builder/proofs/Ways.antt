-- While a tree is built, its edges lead down to each cell that has a path.
use Rattle.std.proofs.Common.{◌≡◌, ℕ, suc, Option, Some, None, List, nat_cmp, refl, sym, ap, ◌∙◌, arith}
use Rattle.std.specs.Ordering.{eq_by_cmp}
use Rattle.std.specs.Option.{option_map}
use Rattle.std.specs.FinMap as map
use Rattle.cube_defs.specs.Cell.{Cell, cell_prefix}
use Rattle.cube_defs.specs.Rows.{Row}
use Rattle.cube_defs.specs.Tree.{Tree, cell_at}
use Rattle.cube_laws.proofs.CallerLemmas.{shared_some}
use Rattle.tree_laws.specs.Walk.{target_at}
use Rattle.tree_laws.proofs.CallerLemmas.{cell_prefix-cell_prefix}
use Rattle.build_trace.specs.Trace.{Act}
use Rattle.build_trace.specs.Ready.{HasPath}
use Rattle.build_trace.proofs.CallerLemmas.{entry_cell_prefix, go_down}
use Rattle.class_builder.specs.Building.{IsBuilding}
use Rattle.qc_arena.specs.Map.{Arena, Known}
use Rattle.qc_arena.specs.RecordReaders.{record_at, record_or}
use Rattle.drill_links.specs.Way.{IsWay}

record_there : (t : Tree ℕ) (k : ℕ) (c : Cell ℕ) → cell_at t k ≡ Some c → (map.get t k ≡ Some (record_at t k))
    × ((record_at t k).cell ≡ c)
record_there t k c at = go (map.get t k) at
  where
    go : (o : Option Known) → option_map (λ (x : Known). x.cell) o ≡ Some c → (o ≡ Some (record_or o))
        × ((record_or o).cell ≡ c)
    go None e = cc
    go (Some n) e = (refl, (cc))

-- t's prefix with the last dimension has a path
pub way_down : (measures : ℕ) (rows : List (Row ℕ)) (done rest : List Act) (a : Arena)
    → IsBuilding measures rows done rest a → (t : Cell ℕ) (first last : ℕ) → HasPath done (cell_prefix (suc last) t)
    → IsWay a.now t first last
way_down measures rows done rest a g t first last path = record {
  leads = λ j v k from within has at.
      let front = cell_prefix (suc last) t in
      let n = record_there a.now k (cell_prefix j t) at in
      let r : (l : ℕ) × (target_at (eq_by_cmp nat_cmp) j v (record_at a.now k).edges ≡ Some l)
      × (cell_at a.now l ≡ Some (cell_prefix (suc j) front)) =
      go_down measures a.width rows g.wide (shared_some rows g.some) done rest (λ q. map.get a.now q) front j v k
      (record_at a.now k) g.whole g.follows path
      (entry_cell_prefix j (suc last) t (omega arith) ∙ has) n.0 (n.1
      ∙ sym (cell_prefix-cell_prefix j (suc last) t (omega arith))) in
      record {
        target = r.0;
        edge = r.1;
        is
            = r.2 ∙ ap (λ c. Some c) (cell_prefix-cell_prefix (suc j) (suc last) t (omega arith));
      };
}
