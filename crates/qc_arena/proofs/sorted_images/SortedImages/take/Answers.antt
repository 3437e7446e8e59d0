use Rattle.std.proofs.Common.{List, Option, ap, arith, length, length-append, subst, sym, ℕ, ◌∙◌, ◌++◌, ◌≡◌}
use Rattle.qc_arena.specs.Entries.{IsOnce, all_new}
use Rattle.qc_arena.specs.Map.{Known}
use Rattle.qc_arena.specs.Merges.{all_in}
use Rattle.qc_arena.proofs.Looked.{none_before}
use Rattle.qc_arena.proofs.Merges.{first_once, first_rest, first_rise, first_took, none_behind, none_rest, none_took, second_once}
use Rattle.qc_arena.proofs.Merges.{second_rest, second_rise, second_took}
use Rattle.qc_arena.proofs.sorted_images.SortedImages.take.Goals as goal

pub pop_changed-requires-clause-most : goal.pop_changed-requires-clause-most
pop_changed-requires-clause-most c
    = λ q l. none_before q c.args.self.now.changed.items (all_new c.args.self.now.added.items) (c.requires.most q l)

pub returns-in-Some-clause-rising : goal.returns-in-Some-clause-rising
returns-in-Some-clause-rising c =
    let m = c.args.self.now in
    record {
      once = first_once m.changed.items c.pop_changed.new.changed.items (all_new m.added.items) c.args.node
          c.in-Some.image c.requires.rising.once c.in-Some.ensures.some;
      changed_rise = first_rise m.changed.items c.pop_changed.new.changed.items
          (all_new m.added.items) c.args.node c.in-Some.image c.requires.rising.once c.in-Some.ensures.some
          c.requires.rising.changed_rise;
      added_rise = c.requires.rising.added_rise;
    }

pub returns-in-Some-clause-took : goal.returns-in-Some-clause-took
returns-in-Some-clause-took c =
    let m = c.args.self.now in
    first_took m.changed.items c.pop_changed.new.changed.items (all_new m.added.items) c.args.node c.in-Some.image
    c.requires.rising.once c.in-Some.ensures.some

pub returns-in-Some-clause-rest : goal.returns-in-Some-clause-rest
returns-in-Some-clause-rest c =
    let m = c.args.self.now in
    first_rest m.changed.items c.pop_changed.new.changed.items (all_new m.added.items) c.args.node c.in-Some.image
    c.requires.rising.once c.in-Some.ensures.some

pub pop_added-requires-clause-most : goal.pop_added-requires-clause-most
pop_added-requires-clause-most c
    = λ q l. none_behind q c.args.self.now.changed.items (all_new c.args.self.now.added.items) (c.requires.most q l)

pub returns-then-pop_added-clause-rising : goal.returns-then-pop_added-clause-rising
returns-then-pop_added-clause-rising c =
    let m = c.args.self.now in
    let same = c.in_default.ensures.none.0 in
    record {
      once = second_once m.changed.items c.pop_changed.new.changed.items m.added.items c.pop_added.new.added.items
          c.args.node c.requires.rising.once same c.if-pop_added.ensures.some;
      changed_rise = rw same c.requires.rising.changed_rise;
      added_rise = second_rise m.changed.items c.pop_changed.new.changed.items m.added.items c.pop_added.new.added.items
          c.args.node c.requires.rising.once same c.if-pop_added.ensures.some c.requires.rising.added_rise;
    }

pub returns-then-pop_added-clause-took : goal.returns-then-pop_added-clause-took
returns-then-pop_added-clause-took c =
    let m = c.args.self.now in
    second_took m.changed.items c.pop_changed.new.changed.items m.added.items c.pop_added.new.added.items c.args.node
    c.requires.rising.once c.in_default.ensures.none.0 c.if-pop_added.ensures.some

pub returns-then-pop_added-clause-rest : goal.returns-then-pop_added-clause-rest
returns-then-pop_added-clause-rest c =
    let m = c.args.self.now in
    second_rest m.changed.items c.pop_changed.new.changed.items m.added.items c.pop_added.new.added.items c.args.node
    c.requires.rising.once c.in_default.ensures.none.0 c.if-pop_added.ensures.some

pub returns-clause-took : goal.returns-clause-took
returns-clause-took c =
    let m = c.args.self.now in
    sym (none_took c.args.node m.changed.items (all_new m.added.items) c.in_default.ensures.none.1
    c.if-pop_added.ensures.none.1)

pub returns-clause-rest : goal.returns-clause-rest
returns-clause-rest c =
    let m = c.args.self.now in
    let same = ap (λ l. l ++ all_new c.pop_added.new.added.items) c.in_default.ensures.none.0
    ∙ ap (λ l. m.changed.items ++ all_new l) c.if-pop_added.ensures.none.0 in
    none_rest c.args.node (all_in m) (c.pop_changed.new.changed.items ++ all_new c.pop_added.new.added.items)
    (none_took c.args.node m.changed.items (all_new m.added.items) c.in_default.ensures.none.1
    c.if-pop_added.ensures.none.1) same

pub pop_changed-requires-clause-rising : goal.pop_changed-requires-clause-rising
pop_changed-requires-clause-rising c = c.requires.rising.changed_rise

pub pop_added-requires-clause-rising : goal.pop_added-requires-clause-rising
pop_added-requires-clause-rising c = c.requires.rising.added_rise

pub returns-in-Some-clause-changed : goal.returns-in-Some-clause-changed
returns-in-Some-clause-changed c = ap length c.in-Some.ensures.some ∙ length-append c.pop_changed.new.changed.items _

pub returns-in-Some-clause-added : goal.returns-in-Some-clause-added
returns-in-Some-clause-added c = omega arith

pub returns-then-pop_added-clause-changed : goal.returns-then-pop_added-clause-changed
returns-then-pop_added-clause-changed c =
    let same = ap length c.in_default.ensures.none.0 in
    omega (arith, same)

pub returns-then-pop_added-clause-added : goal.returns-then-pop_added-clause-added
returns-then-pop_added-clause-added c = ap length c.if-pop_added.ensures.some
    ∙ length-append c.pop_added.new.added.items _

pub returns-clause-rising : goal.returns-clause-rising
returns-clause-rising c =
    let m = c.args.self.now in
    let changed = c.in_default.ensures.none.0 in
    let added = c.if-pop_added.ensures.none.0 in
    let same : all_in m ≡ c.pop_changed.new.changed.items ++ all_new c.pop_added.new.added.items
    = sym (ap (λ l. l ++ all_new c.pop_added.new.added.items) changed ∙ ap (λ l. m.changed.items ++ all_new l) added) in
    record {
      once = subst (λ (l : List (ℕ × Option Known)). IsOnce l) same c.requires.rising.once;
      changed_rise = rw changed c.requires.rising.changed_rise;
      added_rise = rw added c.requires.rising.added_rise;
    }

pub returns-clause-changed : goal.returns-clause-changed
returns-clause-changed c =
    let same = ap length c.in_default.ensures.none.0 in
    omega (arith, same)

pub returns-clause-added : goal.returns-clause-added
returns-clause-added c =
    let same = ap length c.if-pop_added.ensures.none.0 in
    omega (arith, same)
