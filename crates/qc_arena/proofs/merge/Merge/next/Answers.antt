use Rattle.std.proofs.Common.{Some, ap, arith, subst, sym, ◌++◌, ◌+◌, ◌-◌, ◌≤◌, ◌∙◌}
use Rattle.qc_arena.specs.Merges.{added_in, all_in, changed_in, entry_image}
use Rattle.qc_arena.proofs.Merges.{few_added, few_changed, none_left, not_merged, rest_both, said_first, step_apart, step_same}
use Rattle.qc_arena.proofs.merge.Merge.next.Goals as goal

pub returns-then-end-eq0-clause-done : goal.returns-then-end-eq0-clause-done
returns-then-end-eq0-clause-done c =
    let m = c.self.inside in
    let older = none_left m.older
    (λ q. c.end.ensures.most q (omega (arith, c.larger-end.ensures.one, c.if-end-eq0.true))) in
    let later = none_left m.later
    (λ q. c.end-2.ensures.most q (omega (arith, c.larger-end.ensures.other, c.if-end-eq0.true))) in
    sym (ap (λ p. p.1) c.self.view_is) ∙ omega (arith, older, later)

pub put-requires-clause-none : goal.put-requires-clause-none
put-requires-clause-none c =
    let m = c.self.inside in
    let is = sym c.or.ensures ∙ c.in-Some.is in
    not_merged (all_in m.merged) (all_in m.older ++ all_in m.later) (c.larger-end.result - 1)
    (entry_image c.in-Some.entry) c.self.invariant.apart
    (said_first c.take-older.result c.take-later.result c.in-Some.entry (all_in m.older) (all_in m.later)
    (c.larger-end.result - 1) is c.take-older.ensures.took c.take-later.ensures.took)

pub invariant_of-self : goal.invariant_of-self
invariant_of-self c =
    let m = c.self.inside in
    let node = c.larger-end.result - 1 in
    let is = sym c.or.ensures ∙ c.in-Some.is in
    let changed : changed_in (Some c.in-Some.entry) ≤ changed_in c.take-older.result + changed_in c.take-later.result =
    subst (λ o. changed_in o ≤ changed_in c.take-older.result + changed_in c.take-later.result) is
    (few_changed c.take-older.result c.take-later.result) in
    let added : added_in (Some c.in-Some.entry) ≤ added_in c.take-older.result + added_in c.take-later.result =
    subst (λ o. added_in o ≤ added_in c.take-older.result + added_in c.take-later.result) is
    (few_added c.take-older.result c.take-later.result) in
    record {
      older_rise = c.take-older.ensures.rising;
      later_rise = c.take-later.ensures.rising;
      once = c.put.ensures.once;
      apart = step_apart (all_in m.merged) (all_in c.put.new.self) (all_in m.older ++ all_in m.later)
          (all_in c.take-older.new.self ++ all_in c.take-later.new.self) node
          (entry_image c.in-Some.entry) c.put.ensures.put
          (rest_both (all_in m.older) (all_in m.later) (all_in c.take-older.new.self)
          (all_in c.take-later.new.self) node c.take-older.ensures.rest c.take-later.ensures.rest)
          c.self.invariant.apart;
      changed = omega (
        arith,
        changed,
        c.take-older.ensures.changed,
        c.take-later.ensures.changed,
        c.put.ensures.changed,
        c.put.ensures.changed_room,
        c.self.invariant.changed,
      );
      added = omega (
        arith,
        added,
        c.take-older.ensures.added,
        c.take-later.ensures.added,
        c.put.ensures.added,
        c.put.ensures.added_room,
        c.self.invariant.added,
      );
    }

pub returns-in-Some-clause-same : goal.returns-in-Some-clause-same
returns-in-Some-clause-same c =
    let m = c.self.inside in
    let node = c.larger-end.result - 1 in
    let is = sym c.or.ensures ∙ c.in-Some.is in
    let value = said_first c.take-older.result c.take-later.result c.in-Some.entry (all_in m.older)
    (all_in m.later) node is c.take-older.ensures.took c.take-later.ensures.took in
    let none = not_merged (all_in m.merged) (all_in m.older ++ all_in m.later) node
    (entry_image c.in-Some.entry) c.self.invariant.apart value in
    step_same (all_in m.merged) (all_in c.put.new.self) (all_in m.older ++ all_in m.later)
    (all_in c.take-older.new.self ++ all_in c.take-later.new.self) node
    (entry_image c.in-Some.entry) c.put.ensures.put
    (rest_both (all_in m.older) (all_in m.later) (all_in c.take-older.new.self) (all_in c.take-later.new.self) node
    c.take-older.ensures.rest c.take-later.ensures.rest) value none
    ∙ ap (λ p. p.0) c.self.view_is

pub take-older-requires-clause-most : goal.take-older-requires-clause-most
take-older-requires-clause-most c = λ q l. c.end.ensures.most q (omega (arith, l, c.larger-end.ensures.one))

pub take-later-requires-clause-most : goal.take-later-requires-clause-most
take-later-requires-clause-most c = λ q l. c.end-2.ensures.most q (omega (arith, l, c.larger-end.ensures.other))

pub put-requires-clause-changed : goal.put-requires-clause-changed
put-requires-clause-changed c =
    let is = sym c.or.ensures ∙ c.in-Some.is in
    let changed : changed_in (Some c.in-Some.entry) ≤ changed_in c.take-older.result + changed_in c.take-later.result =
    subst (λ o. changed_in o ≤ changed_in c.take-older.result + changed_in c.take-later.result) is
    (few_changed c.take-older.result c.take-later.result) in
    omega (
      arith,
      changed,
      c.take-older.ensures.changed,
      c.take-later.ensures.changed,
      c.self.invariant.changed,
    )

pub put-requires-clause-added : goal.put-requires-clause-added
put-requires-clause-added c =
    let is = sym c.or.ensures ∙ c.in-Some.is in
    let added : added_in (Some c.in-Some.entry) ≤ added_in c.take-older.result + added_in c.take-later.result =
    subst (λ o. added_in o ≤ added_in c.take-older.result + added_in c.take-later.result) is
    (few_added c.take-older.result c.take-later.result) in
    omega (
      arith,
      added,
      c.take-older.ensures.added,
      c.take-later.ensures.added,
      c.self.invariant.added,
    )
