use Rattle.std.proofs.Common.{arith, None}
use Rattle.std.proofs.lemmas.Str.Pattern.{strip_prefix_char}
use Rattle.query_script.proofs.Asking.{plain-value}
use Rattle.query_script.proofs.record.named_value.Goals as goal

pub returns-in-None : goal.returns-in-None
returns-in-None c = plain-value c.args.field.now
    (strip_prefix_char 61 c.args.field.now None c.in-None.ensures.cases (omega arith))
