use Rattle.std.proofs.Common.{◌≡◌, ◌<◌, ◌≤◌, ◌+◌, ℕ, arith, get_or, length, subst, sym}
use Rattle.csv_load.specs.Batch.{Delete, change_at, id_of}
use Rattle.warehouse.proofs.RisingIds.{largest-rising, rest-first, rest-rising}
use Rattle.warehouse.proofs.checks.do_ids_rise.Goals as goal

pub changes-init : goal.changes-init
changes-init c =
    let changes = c.args.batch.now.changes in
    let some : 0 < length changes = omega (arith, c.if-len-eq0.false, c.len.ensures.count) in
    let same : c.id-last.result ≡ id_of (change_at changes 1) = c.id-last.ensures in
    record {
      below = λ j lt. subst (λ (n : ℕ). id_of (get_or changes j (Delete 0)) ≤ n) (sym same)
          (largest-rising changes 0 0 some (λ i none. absurd (omega (arith, none))) (omega arith) j lt);
      rest = rest-first changes some;
    }

pub changes-preserved : goal.changes-preserved
changes-preserved c =
    let changes = c.args.batch.now.changes in
    let k = c.changes.before in
    let lt : k < length changes = omega (arith, c.changes-test.true, c.len-before-end.ensures.count) in
    let same : c.id-id.result ≡ id_of (change_at changes (k + 1)) = c.id-id.ensures in
    let more : c.changes.last < id_of (change_at changes (k + 1)) = omega (arith, c.if-id-last.false, same) in
    record {
      below = λ j small. subst (λ (n : ℕ). id_of (get_or changes j (Delete 0)) ≤ n) (sym same)
          (largest-rising changes k c.changes.last lt c.changes.invariant.below (omega (arith, more)) j small);
      rest = rest-rising changes k c.changes.last lt c.changes.invariant.below more c.changes.invariant.rest;
    }
