use Rattle.std.proofs.Common.{◌≡◌}
use Rattle.std.specs.List.{All}
use Rattle.tree_tests.proofs.indexes.classes.Given as goal

abbrev pub invariant-told : goal.invariant-told
invariant-told l = All (λ class. class.1.measures ≡ 1) l.classes.items
