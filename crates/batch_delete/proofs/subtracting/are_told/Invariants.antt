use Rattle.std.proofs.Common.{◌<◌, ℕ}
use Rattle.batch_delete.specs.Told.{IsTold}
use Rattle.batch_delete.proofs.Lesser.{at}
use Rattle.batch_delete.proofs.subtracting.are_told.Given as goal

abbrev pub invariant-parts : goal.invariant-parts
invariant-parts l = (j : ℕ) → j < l.k → IsTold (at l.whole.parts j) (at l.part.parts j) l.count
