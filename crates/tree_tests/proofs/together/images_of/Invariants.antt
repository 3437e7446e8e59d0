use Rattle.std.specs.Prelude.{false, ◌≡◌}
use Rattle.qc_arena.specs.Map.{is_open}
use Rattle.tree_tests.proofs.together.images_of.Given as goal

abbrev pub invariant-batches : goal.invariant-batches
invariant-batches g l = is_open l.arena ≡ false
