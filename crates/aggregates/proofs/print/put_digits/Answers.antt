use Rattle.std.proofs.Common.{◌+◌, ◌-◌, drop, arith}
use Rattle.aggregates.proofs.Printing.{digit-left, digit-out}
use Rattle.aggregates.proofs.print.put_digits.Goals as goal

pub digits-preserved : goal.digits-preserved
digits-preserved c =
    let end = c.args.at + c.from.result in
    let k = end - c.digits.place in
    let m = end - (c.digits.place - 1) in
    record {
      from = omega arith;
      to = omega arith;
      left = digit-left c.args.value k c.digits.left m (omega arith) c.digits.invariant.left;
      out = digit-out c.args.out.now c.digits.out (drop end c.args.out.now) c.args.value c.digits.left
          c.digits.place k m
          (omega arith) (omega arith) (omega arith) c.digits.invariant.left c.digits.invariant.out;
    }
