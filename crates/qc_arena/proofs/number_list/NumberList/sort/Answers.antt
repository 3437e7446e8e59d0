use Rattle.std.proofs.Common.{◌<◌, ◌++◌, subst}
use Rattle.std.specs.List.Sorted.{IsPermutation}
use Rattle.std.proofs.lemmas.List.Sorted.{All-permutation, IsPermutation-append, IsPermutation-refl}
use Rattle.qc_arena.specs.Numbers.{Numbers, run}
use Rattle.qc_arena.proofs.Runs.{sorted_both}
use Rattle.qc_arena.proofs.number_list.NumberList.sort.Goals as goal

pub invariant_of-self : goal.invariant_of-self
invariant_of-self c =
    let m = c.self.inside in
    record {
      rises = c.self.invariant.rises;
      small = c.self.invariant.small;
      before = All-permutation (λ n. n < m.first) m.listed.items c.sort_unstable.new.self.items
          c.sort_unstable.ensures.permutation c.self.invariant.before;
    }

pub returns-clause-permutation : goal.returns-clause-permutation
returns-clause-permutation c =
    let m = c.self.inside in
    let rest = run m.first m.end in
    subst (λ (n : Numbers). IsPermutation n.items (c.sort_unstable.new.self.items ++ rest)) c.self.view_is
    (IsPermutation-append m.listed.items c.sort_unstable.new.self.items rest rest c.sort_unstable.ensures.permutation
    (IsPermutation-refl rest))

pub returns-clause-sorted : goal.returns-clause-sorted
returns-clause-sorted c =
    let m = c.self.inside in
    sorted_both c.sort_unstable.new.self.items m.first m.end
    (All-permutation (λ n. n < m.first) m.listed.items c.sort_unstable.new.self.items
    c.sort_unstable.ensures.permutation c.self.invariant.before) c.sort_unstable.ensures.sorted
