use Rattle.std.proofs.Common.{◌≡◌, ◌+◌, length, drop}
use Rattle.aggregates.specs.Numbers.{digit_prefix, number, number_after}
use Rattle.aggregates.proofs.read.leading_digits.Given as goal

-- the digits that are still to come, after those that were taken, are all
abbrev pub invariant-digits : goal.invariant-digits
invariant-digits l = record {
  value : number_after l.value (digit_prefix (drop l.byte-index l.text)) ≡ number (digit_prefix l.text);
  count : l.len + length (digit_prefix (drop l.byte-index l.text)) ≡ length (digit_prefix l.text);
  taken : l.len ≡ l.byte-index;
}
