use Rattle.std.proofs.Common.{◌<◌, ◌++◌, ◌∙◌, arith, ap, get_or, length, pos}
use Rattle.std.specs.Int.{w64}
use Rattle.std.proofs.lemmas.Int.{fits_signed_from_abs, to_z-of_z}
use Rattle.cube_snapshot.specs.Parts.{IsAmount, amount}
use Rattle.cube_snapshot.proofs.Putting.{put_next}
use Rattle.cube_snapshot.proofs.writing.put_amounts.Goals as goal

pub amounts-preserved : goal.amounts-preserved
amounts-preserved c =
    let k = c.amounts.value-index in
    let z = get_or c.args.amounts.now k (pos 0) in
    let lt : k < length c.args.amounts.now = omega (arith, c.amounts-test.true) in
    let small : IsAmount z = c.requires k (pos 0) lt in
    let same = to_z-of_z w64 z (fits_signed_from_abs w64 z (omega (arith, small))) in
    put_next amount.put c.amounts.out.items c.put_amount.new.out.items c.args.out.now.items c.args.amounts.now k
    (pos 0) lt c.amounts.invariant
    (c.in_ok-put_amount.ensures ∙ ap (λ a. c.amounts.out.items ++ amount.put a) same)
