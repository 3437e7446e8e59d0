-- The walk goes on from where it stands.
use Rattle.std.proofs.Common.{◌≡◌, ℕ, true, Some, IsSome, List, [], ◌++◌, length, ap, ◌∙◌}
use Rattle.std.specs.FinMap as map
use Rattle.cube_defs.specs.Cell.{Cell}
use Rattle.cube_defs.specs.Tree.{cell_at}
use Rattle.tree_laws.proofs.CallerLemmas.{there}
use Rattle.base_table.specs.Places.{Places}
use Rattle.base_table.specs.declared.table.RowNo.{RowNo}
use Rattle.cell_closure.proofs.CallerLemmas as rows
use Rattle.cell_closure.proofs.CallerLemmas.{shared_long}
use Rattle.build_trace.specs.Trace.{Act}
use Rattle.qc_arena.specs.Map.{Arena, CanChange, frame, is_open, is_touched}
use Rattle.class_builder.specs.PrefixNodes.{ArePrefixNodes}
use Rattle.class_builder.specs.Stands.{HasDone, StandsAt}
use Rattle.class_builder.specs.Walk.{IsOnPath, IsPart}
use Rattle.class_builder.specs.declared.prefix_nodes.PrefixNodes.{PrefixNodes}
use Rattle.class_builder.specs.declared.path.Path.{Path}
use Rattle.class_builder.proofs.Building.{does_nothing, does_then, next_behind, next_prefix}

pub part_long : (t : Places) (nos : List RowNo) (u : Cell ℕ) → IsPart t nos u → length u ≡ t.dims
part_long t nos u p = ap length p.shared ∙ shared_long t p.table nos (rows.there t nos p.there) p.some

module _ (t : Places) (es fs : List Act) where
  pub stands_prefix : (u : Cell ℕ) (k : ℕ) (a : Arena) (p : Path) (f : PrefixNodes) → StandsAt t u k (es ++ fs) a p f
      → StandsAt t u k es a p f
  stands_prefix u k a p f s
      = record { width = s.width; next = next_prefix es fs a s.next; path = s.path; fronts = s.fronts }

  pub stands_behind : (u v : Cell ℕ) (k j : ℕ) (a b : Arena) (p q : Path) (f g : PrefixNodes)
      → StandsAt t u k (es ++ fs) a p f → HasDone t es a b g → frame b ≡ frame a → IsOnPath b q v j
      → StandsAt t v j fs b q g
  stands_behind u v k j a b p q f g s d framed on
      = record {
        width = ap (λ (x : Arena). x.width) framed ∙ s.width;
        next = next_behind es fs a b s.next d.does;
        path
            = on;
        fronts = d.fronts;
      }

  pub done_then : (a b c : Arena) (f g : PrefixNodes) → HasDone t es a b f → HasDone t fs b c g
      → HasDone t (es ++ fs) a c g
  done_then a b c f g d e = record { does = does_then es fs a b c d.does e.does; fronts = e.fronts }

pub done_nothing : (t : Places) (a : Arena) (f : PrefixNodes) → ArePrefixNodes t a f → HasDone t [] a a f
done_nothing t a f noted = record { does = does_nothing a; fronts = noted }

-- a node can be changed
pub on_change : (a : Arena) (n : ℕ) (c : Cell ℕ) → cell_at a.now n ≡ Some c → is_open a ≡ true
    → ((k : ℕ) → IsSome (map.get a.now k) → is_touched a k ≡ true) → CanChange a n
on_change a n c at opened touched = let h = there a.now n c at in
    record { opened = opened; there = h; touched = touched n h }
