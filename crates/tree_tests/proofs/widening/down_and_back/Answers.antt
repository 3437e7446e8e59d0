use Rattle.std.proofs.Common.{◌∙◌, ℕ, IsSome, ap, is_some, sym, true≢false}
use Rattle.std.specs.FinMap as map
use Rattle.cube_defs.specs.Tree.{Tree}
use Rattle.qc_arena.specs.Lowered.{HandsDown, IsChildOf, with_forced_child}
use Rattle.qc_arena.specs.Map.{Known}
use Rattle.qc_arena.specs.RecordReaders.{record_or}
use Rattle.qc_arena.proofs.CallerLemmas.{some_map}
use Rattle.tree_tests.specs.RootClass.{IsRootClass}
use Rattle.tree_tests.proofs.widening.down_and_back.Goals as goal

-- the heir of a root's class is a child of the root
heir_below : (dim root child : ℕ) (tree tree' : Tree ℕ) → IsRootClass root tree → HandsDown dim root tree tree' child
    → IsChildOf tree' root child
heir_below dim root child tree tree' single moved =
    let there : IsSome (map.get tree root)
    = some_map (λ (n : Known). n.cell) (map.get tree root) ∙ ap is_some single.cell in
    record {
      there = ap is_some moved.child;
      parent = ap (λ o. (record_or o).parent) moved.child;
      above = ap is_some moved.here ∙ sym (some_map (with_forced_child dim child) (map.get tree root)) ∙ there;
      apart = λ e. true≢false (sym there ∙ ap (λ k. is_some (map.get tree k)) e ∙ ap is_some moved.free);
    }

pub take_back-requires-clause-child : goal.take_back-requires-clause-child
take_back-requires-clause-child g c = (
  c.args.root.0,
  heir_below 3 c.args.root.0 c.in-Ok.child.0 c.args.arena.now.now c.hand_down.new.self.now c.requires.single
      c.in-Ok.ensures.moved,
)
