use Rattle.std.proofs.Common.{◌≡◌, ◌<◌, ◌+◌, ◌∙◌, ap, arith, length, sym, true, false, List, Ok, take}
use Rattle.std.specs.Prelude.{not}
use Rattle.std.specs.List.{list_any}
use Rattle.cube_defs.specs.Text.{Text}
use Rattle.csv_load.specs.Batch.{Change, change_at}
use Rattle.warehouse.specs.Batch.{same_change}
use Rattle.warehouse.proofs.Changes.{one-before, repeat-here, repeat-later}
use Rattle.warehouse.proofs.checks.first_repeated.Goals as goal

pub returns-then-not-branch : goal.returns-then-not-branch
returns-then-not-branch c =
    let changes = c.args.batch.now.changes in
    let k = c.changes.before in
    let lt : k < length changes = omega (arith, c.changes-test.true, c.len-count.ensures.count) in
    let any : c.in_ok-is_new.field-0 ≡ not (list_any (same_change (change_at changes (k + 1))) (take k changes))
    = c.in_ok-is_new.ensures.new
    ∙ ap (λ (cs : List (Change Text)). not (list_any (same_change (change_at changes (k + 1))) cs))
    (one-before changes k) in
    let there : list_any (same_change (change_at changes (k + 1))) (take k changes) ≡ true
    = grind (arith, any, c.if-not-branch.true) in
    sym (repeat-here changes k lt there) ∙ c.changes.invariant.rest

pub changes-preserved : goal.changes-preserved
changes-preserved c =
    let changes = c.args.batch.now.changes in
    let k = c.changes.before in
    let lt : k < length changes = omega (arith, c.changes-test.true, c.len-count.ensures.count) in
    let any : c.in_ok-is_new.field-0 ≡ not (list_any (same_change (change_at changes (k + 1))) (take k changes))
    = c.in_ok-is_new.ensures.new
    ∙ ap (λ (cs : List (Change Text)). not (list_any (same_change (change_at changes (k + 1))) cs))
    (one-before changes k) in
    let new : list_any (same_change (change_at changes (k + 1))) (take k changes) ≡ false
    = grind (arith, any, c.if-not-branch.false) in
    let yes : c.in_ok-is_new.field-0 ≡ true = grind (arith, c.if-not-branch.false) in
    record {
      seen = c.in_ok-is_new.ensures.seen (ap Ok yes);
      rest = sym (repeat-later changes k lt new) ∙ c.changes.invariant.rest;
    }
