use Rattle.std.proofs.Common.{◌∙◌, ◌++◌, ℕ, List, ap, arith, nat_cmp, nat_eq, subst, sym}
use Rattle.std.specs.List.Sorted.{IsSorted}
use Rattle.std.specs.Map.{lookup}
use Rattle.qc_arena.specs.Entries.{all_new}
use Rattle.qc_arena.specs.Numbers.{Numbers, run}
use Rattle.qc_arena.proofs.Looked.{search_found, search_missed}
use Rattle.qc_arena.proofs.Runs.{found_listed, found_run, missed, sorted_listed}
use Rattle.qc_arena.proofs.number_list.NumberList.has.Goals.{else-self-number-via-else-self-number}
use Rattle.qc_arena.proofs.number_list.NumberList.has.Goals.{else-self-number-via-then-self-number+else-number-self}
use Rattle.qc_arena.proofs.number_list.NumberList.has.Goals as goal

pub returns-then-number-self : goal.returns-then-number-self
returns-then-number-self c =
    let m = c.self.inside in
    ap (λ (n : Numbers). lookup (nat_eq c.args.number) (all_new n.items)) (sym c.self.view_is)
    ∙ found_run m.listed.items m.first m.end c.args.number c.if-self-number.true c.if-number-self.true

pub returns-in-Ok : goal.returns-in-Ok
returns-in-Ok c =
    let m = c.self.inside in
    let same = search_found (λ (x : ℕ). x) c.args.number c.deref.result.now c.in-Ok.field-0 0 c.in-Ok.ensures.position in
    ap (λ (n : Numbers). lookup (nat_eq c.args.number) (all_new n.items)) (sym c.self.view_is)
    ∙ ap (λ (xs : List ℕ). lookup (nat_eq c.args.number) (all_new (xs ++ run m.first m.end))) (sym c.deref.ensures.value)
    ∙ found_listed c.deref.result.now m.first m.end c.args.number c.in-Ok.field-0 c.in-Ok.ensures.bound same

pub returns-in-Err : goal.returns-in-Err
returns-in-Err c =
    let m = c.self.inside in
    let whole = subst (λ (n : Numbers). IsSorted nat_cmp n.items) (sym c.self.view_is) c.requires in
    let sorted = subst (IsSorted nat_cmp) (sym c.deref.ensures.value)
    (sorted_listed m.listed.items m.first m.end whole) in
    ap (λ (n : Numbers). lookup (nat_eq c.args.number) (all_new n.items)) (sym c.self.view_is)
    ∙ ap (λ (xs : List ℕ). lookup (nat_eq c.args.number) (all_new (xs ++ run m.first m.end))) (sym c.deref.ensures.value)
    ∙ missed c.deref.result.now m.first m.end c.args.number
    (search_missed (λ (x : ℕ). x) c.args.number c.deref.result.now c.in-Err.field-0 sorted c.in-Err.ensures.position)
    (λ l h. elim c.else-self-number.branch [
      | else-self-number-via-then-self-number+else-number-self w ↦ absurd (omega (arith, h, w.if-number-self))
      | else-self-number-via-else-self-number w ↦ absurd (omega (arith, l, w.if-self-number))
    ])
