use Rattle.std.proofs.Common.{ℕ, suc, length, ◌≡◌, ◌-◌}
use Rattle.batch_insert.specs.Numbered.{numbered}
use Rattle.batch_insert.proofs.numbers.Numbers.reach.Given as goal

abbrev pub invariant-pages : goal.invariant-pages
invariant-pages l = (m : ℕ) → numbered l.self m ≡ numbered l.initial.self m

abbrev pub decreases-pages : goal.decreases-pages
decreases-pages l = suc l.page - length l.self.pages.items
