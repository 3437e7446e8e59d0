use Rattle.std.proofs.Common.{◌≡◌, arith, sym, subst, ◌<◌, ◌≤◌, ℕ}
use Rattle.std.proofs.lemmas.Nat.Gcd.{IsGcd-from_mod, IsGcd-from_zero, same_from_IsGcd}
use Rattle.cube_defs.specs.Rows.{gcd}
use Rattle.cube_laws.proofs.CallerLemmas.{gcd-is}
use Rattle.aggregates.proofs.Ratios.{gcd-positive, gcd-small}
use Rattle.aggregates.proofs.value.greatest_common_divisor.Goals as goal

pub euclid-init : goal.euclid-init
euclid-init c = λ g h. h

pub euclid-preserved : goal.euclid-preserved
euclid-preserved c = λ g h. c.euclid.invariant g (IsGcd-from_mod c.euclid.a c.euclid.b g h)

pub returns : goal.returns
returns c =
    let e : c.euclid.a ≡ gcd c.args.first c.args.second = same_from_IsGcd c.args.first c.args.second _ _
    (c.euclid.invariant c.euclid.a (IsGcd-from_zero c.euclid.a c.euclid.b (omega arith)))
    (gcd-is c.args.first c.args.second)
    in
    record {
      value = e;
      positive = λ h. let P : ℕ → Type 0 = λ n. 0 < n in subst P (sym e) (gcd-positive c.args.first c.args.second h);
      small = λ h. let P : ℕ → Type 0 = λ n. n ≤ c.args.second in
          subst P (sym e) (gcd-small c.args.first c.args.second h);
    }
