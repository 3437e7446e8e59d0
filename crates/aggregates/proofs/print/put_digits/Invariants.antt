use Rattle.std.proofs.Common.{◌≡◌, ◌-◌, ◌/◌, ◌^◌, ◌≤◌, ◌++◌, take, drop}
use Rattle.aggregates.specs.Texts.{last_digits}
use Rattle.aggregates.proofs.print.put_digits.Given as goal

-- the last digits stand there, and the others are left
abbrev pub invariant-digits : goal.invariant-digits
invariant-digits l = record {
  from : l.at ≤ l.place;
  to : l.place ≤ l.end;
  left : l.left ≡ l.value / 10 ^ (l.end - l.place);
  out : l.out ≡ take l.place l.fn.out ++ last_digits (l.end - l.place) l.value ++ drop l.end l.fn.out;
}

abbrev pub decreases-digits : goal.decreases-digits
decreases-digits l = l.place
