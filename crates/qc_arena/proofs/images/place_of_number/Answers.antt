use Rattle.std.proofs.Common.{ap, get_or, length, nat_cmp, subst, sym, ◌<◌, ◌∙◌}
use Rattle.std.specs.List.Sorted.{IsSorted}
use Rattle.qc_arena.proofs.Looked.{search_missed}
use Rattle.qc_arena.proofs.images.place_of_number.Goals as goal

pub returns-in-Err-clause-none : goal.returns-in-Err-clause-none
returns-in-Err-clause-none c = λ k d l same.
    let same_list = sym c.deref.ensures.value in
    search_missed (λ x. x) c.args.node c.deref.result.now c.in-Err.field-0
    (subst (IsSorted nat_cmp) same_list c.requires) c.in-Err.ensures.position k d
    (subst (λ xs. k < length xs) same_list l) (ap (λ xs. get_or xs k d) c.deref.ensures.value ∙ same)
