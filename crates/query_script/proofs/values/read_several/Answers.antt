use Rattle.std.proofs.Common.{arith, None}
use Rattle.std.proofs.lemmas.Str.Pattern.{strip_prefix_char}
use Rattle.query_script.proofs.Listed.{each-value}
use Rattle.query_script.proofs.values.read_several.Goals as goal

pub returns-in-None : goal.returns-in-None
returns-in-None c =
    each-value c.args.field.now.text.now
    (strip_prefix_char 124 c.args.field.now.text.now None c.in_default.ensures.cases (omega arith))
    (strip_prefix_char 126 c.args.field.now.text.now None c.in-None.ensures.cases (omega arith))
