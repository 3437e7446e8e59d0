use Rattle.std.proofs.Common.{to_z, of_z, ◌≡◌, ◌<◌, ◌-◌, ◌+◌, ◌∙◌, ◌++◌, ◌∷◌, [], All, List, ℤ, ap, ap₂, arith, length, nat_abs, set, subst}
use Rattle.std.proofs.Common.{sym, take, ◌≤◌}
use Rattle.std.proofs.lemmas.Int.{fits_signed_from_abs, to_z-of_z}
use Rattle.std.proofs.lemmas.List.{length-set, take_more_set}
use Rattle.std.proofs.lemmas.List.Elements.{All-push}
use Rattle.std.specs.Int.{w64}
use Rattle.cube_defs.specs.declared.limits.TheConstants.{MAX_AMOUNT}
use Rattle.cube_snapshot.specs.Format.{get_times}
use Rattle.cube_snapshot.specs.Parts.{IsAmount, amount}
use Rattle.cube_snapshot.proofs.Looping.{fails, goes_on, with_prefix}
use Rattle.cube_snapshot.proofs.rows.amounts_at.Goals as goal

pub returns-in_err-value-clause-read : goal.returns-in_err-value-clause-read
returns-in_err-value-clause-read c =
    let k = c.amounts.measure in
    rw c.from_residual.ensures
    (fails amount (take k c.amounts.amounts) c.args.count k c.amounts.rest.now
    (get_times amount c.args.count c.args.bytes.now) c.amounts-test.true
    (sym c.in_err-value.ensures.read) c.amounts.invariant.so_far)

pub amounts-preserved : goal.amounts-preserved
amounts-preserved c =
    let k = c.amounts.measure in
    let value = c.in_ok-value.value in
    let inv = c.amounts.invariant in
    let front : List ℤ = take k c.amounts.amounts in
    let small : IsAmount value = c.in_ok-value.ensures.small in
    let same : to_z w64 (of_z w64 value) ≡ value
    = to_z-of_z w64 value (fits_signed_from_abs w64 value (omega (arith, small))) in
    let lt : k < length c.amounts.amounts = omega (arith, c.amounts-test.true, c.requires, inv.len) in
    let took : take (k + 1) (set c.amounts.amounts c.from.result (to_z w64 (of_z w64 value))) ≡ front ++ value ∷ [] =
    ap₂ (λ (i : _) (z : ℤ). take (k + 1) (set c.amounts.amounts i z)) c.from.ensures same
    ∙ take_more_set c.amounts.amounts k value lt in
    record {
      len = length-set c.amounts.amounts c.from.result (to_z w64 (of_z w64 value)) ∙ inv.len;
      small = subst (All (λ a. nat_abs a ≤ MAX_AMOUNT)) (sym took)
          (All-push (λ a. nat_abs a ≤ MAX_AMOUNT) front value inv.small small);
      so_far = ap (λ (l : List ℤ). with_prefix amount l
          (get_times amount (c.args.count - (k + 1)) c.in_ok-value.after.now)) took
          ∙ goes_on amount front c.args.count k c.amounts.rest.now (get_times amount c.args.count c.args.bytes.now)
          value c.in_ok-value.after.now c.amounts-test.true (sym c.in_ok-value.ensures.read) inv.so_far;
    }
