use Rattle.cube_laws.proofs.Divisors.{gcd-is}
use Rattle.cube_laws.proofs.fractions.euclid_gives_the_greatest_common_divisor.Goals as goal

pub returns : goal.returns
returns c = gcd-is
