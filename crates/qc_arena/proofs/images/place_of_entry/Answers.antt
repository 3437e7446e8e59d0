use Rattle.std.proofs.Common.{rules, ◌∙◌, ap, sym, subst, get_or, nat_cmp, nat_eq}
use Rattle.std.proofs.lemmas.List.Sorted.{answers_always}
use Rattle.std.specs.List.Sorted.{IsSortedByKey}
use Rattle.std.specs.Map.{lookup}
use Rattle.qc_arena.specs.Entries.{entry_number}
use Rattle.qc_arena.proofs.Looked.{none_at, search_found, search_missed}
use Rattle.qc_arena.proofs.images.place_of_entry.Goals as goal

pub returns-in-Ok-clause-some : goal.returns-in-Ok-clause-some
returns-in-Ok-clause-some c = λ d.
    let by_key = c.in-Ok.ensures.position entry_number (answers_always _ _ _ (λ f a r g h. search rules)) in
    ap (λ xs. entry_number (get_or xs c.in-Ok.at d)) (sym c.deref.ensures.value)
    ∙ search_found entry_number c.args.node c.deref.result.now c.in-Ok.at d by_key

pub returns-in-Err-clause-none : goal.returns-in-Err-clause-none
returns-in-Err-clause-none c =
    let by_key = c.in-Err.ensures.position entry_number (answers_always _ _ _ (λ f a r g h. search rules)) in
    let sorted = subst (IsSortedByKey entry_number nat_cmp) (sym c.deref.ensures.value) c.requires in
    ap (λ xs. lookup (nat_eq c.args.node) xs) (sym c.deref.ensures.value)
    ∙ none_at c.args.node c.deref.result.now
    (search_missed entry_number c.args.node c.deref.result.now c.in-Err.field-0 sorted by_key)
