use Rattle.std.proofs.Common.{◌∙◌}
use Rattle.qc_arena.proofs.Looked.{both_moved, map_moved, once_moved}
use Rattle.qc_arena.proofs.unsorted_images.UnsortedImages.sorted.Goals as goal

pub of-requires-clause-once : goal.of-requires-clause-once
of-requires-clause-once c
    = once_moved _ _ (both_moved _ _ _ _ c.sort_changed.ensures.moved c.sort.ensures.permutation)
    c.self.invariant

pub returns : goal.returns
returns c = c.of.ensures
    ∙ map_moved _ _ (both_moved _ _ _ _ c.sort_changed.ensures.moved c.sort.ensures.permutation)
    c.self.invariant ∙ c.self.view_is
