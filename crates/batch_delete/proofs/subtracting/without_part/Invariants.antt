use Rattle.std.proofs.Common.{◌≡◌, ◌*◌, ◌<◌, ◌≤◌, ℕ, length, nat_abs}
use Rattle.batch_delete.proofs.Lesser.{IsRemainder, at}
use Rattle.batch_delete.proofs.subtracting.without_part.Given as goal
use Rattle.cube_defs.specs.declared.limits.TheConstants.{MAX_AMOUNT}

abbrev pub invariant-parts : goal.invariant-parts
invariant-parts l = record {
  told : (j : ℕ) → j < l.k → IsRemainder (at l.part.parts j) (at l.whole.parts j) (at l.parts j);
  small : (j : ℕ) → j < l.k → nat_abs (at l.parts j).sum ≤ l.count * MAX_AMOUNT;
  others : (j : ℕ) → l.k ≤ j → at l.parts j ≡ at l.whole.parts j;
  four : length l.parts ≡ 4;
  as_many : length l.part.parts ≡ 4;
}
