use Rattle.std.proofs.Common.{List, get_or, length, map, nat_cmp, subst, sym, ℕ, ◌<◌, ◌≡◌, ◌≢◌}
use Rattle.std.specs.List.Sorted.{IsSorted}
use Rattle.std.specs.Option.{IfNone, IfSome}
use Rattle.qc_arena.specs.Entries.{entry_number}
use Rattle.qc_arena.proofs.Looked.{not_found, number_found, sorted_numbers}
use Rattle.qc_arena.proofs.images.place_of.Goals as goal

pub place_of_number-requires : goal.place_of_number-requires
place_of_number-requires c =
    let entries = c.args.changed.now.items in
    let same = subst (λ o. IfSome o (λ i. i.numbers.items ≡ map entry_number entries)) c.in-Some.is c.requires.numbers in
    subst (IsSorted nat_cmp) (sym same) (sorted_numbers entries c.requires.sorted)

pub returns-in-Some-clause-some : goal.returns-in-Some-clause-some
returns-in-Some-clause-some c =
    let entries = c.args.changed.now.items in
    let found = c.place_of_number.result in
    let same = subst (λ o. IfSome o (λ i. i.numbers.items ≡ map entry_number entries)) c.in-Some.is c.requires.numbers in
    number_found c.args.node entries found
    (subst (λ (ns : List ℕ). IfSome found (λ k. k < length ns)) same c.place_of_number.ensures.within)
    (subst (λ (ns : List ℕ). IfSome found (λ k. (d : ℕ) → get_or ns k d ≡ c.args.node)) same c.place_of_number.ensures.some)

pub returns-in-Some-clause-none : goal.returns-in-Some-clause-none
returns-in-Some-clause-none c =
    let entries = c.args.changed.now.items in
    let found = c.place_of_number.result in
    let same = subst (λ o. IfSome o (λ i. i.numbers.items ≡ map entry_number entries)) c.in-Some.is c.requires.numbers in
    not_found c.args.node entries found
    (subst (λ (ns : List ℕ). IfNone found ((k d : ℕ) → k < length ns → get_or ns k d ≢ c.args.node)) same
    c.place_of_number.ensures.none)
