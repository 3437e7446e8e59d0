use Rattle.std.proofs.Common.{◌≡◌, ◌∙◌, ◌*◌, ◌≤◌, ◌-ℤ◌, ap, ap₂, arith, nat_abs, of_z, rules, sym, to_z, w64}
use Rattle.std.proofs.lemmas.Int.{to_z-of_z}
use Rattle.std.proofs.lemmas.Bool.{leb-true}
use Rattle.std.specs.Int.Signed.{le_z}
use Rattle.cube_defs.specs.declared.limits.TheConstants.{MAX_AMOUNT}
use Rattle.batch_delete.proofs.subtracting.is_told.Goals as goal

pub returns : goal.returns
returns c = λ within.
    let few : c.unsigned_abs.result ≤ c.args.count * MAX_AMOUNT = leb-true _ _ within in
    let w = c.args.whole.now in
    let p = c.args.part.now in
    let wl : to_z w64 (of_z w64 w.least) ≡ w.least = to_z-of_z w64 w.least (search rules) in
    let pl : to_z w64 (of_z w64 p.least) ≡ p.least = to_z-of_z w64 p.least (search rules) in
    let wg : to_z w64 (of_z w64 w.greatest) ≡ w.greatest = to_z-of_z w64 w.greatest (search rules) in
    let pg : to_z w64 (of_z w64 p.greatest) ≡ p.greatest = to_z-of_z w64 p.greatest (search rules) in
    let ws : to_z w64 (of_z w64 w.sum) ≡ w.sum = to_z-of_z w64 w.sum (search rules) in
    let ps : to_z w64 (of_z w64 p.sum) ≡ p.sum = to_z-of_z w64 p.sum (search rules) in
    let both = ap₂ (λ x y. x -ℤ y) ws ps in
    let sum : c.unsigned_abs.result ≡ nat_abs (w.sum -ℤ p.sum)
    = c.unsigned_abs.ensures.value ∙ ap nat_abs (to_z-of_z w64 _ (search rules) ∙ both) in
    record {
      least = ap₂ le_z (sym pl) (sym wl) ∙ c.if-whole-part.false;
      greatest = ap₂ le_z (sym wg) (sym pg) ∙ c.if-whole-part-2.false;
      small = omega (arith, few, sum);
    }
