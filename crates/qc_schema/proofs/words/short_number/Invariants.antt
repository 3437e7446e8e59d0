use Rattle.std.proofs.Common.{◌≡◌, ◌<◌, ◌^◌, drop}
use Rattle.qc_schema.proofs.Numbers.{read_on}
use Rattle.qc_schema.proofs.words.short_number.Given as goal

abbrev pub invariant-loop-digit : goal.invariant-loop-digit
invariant-loop-digit l = record {
  read : read_on l.value (drop l.digit-index l.word) ≡ read_on 0 l.word;
  small : l.value < 10 ^ l.digit-index;
}
