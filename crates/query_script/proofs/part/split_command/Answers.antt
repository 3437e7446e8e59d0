use Rattle.std.proofs.Common.{◌∷◌, Some, arith, ap, length}
use Rattle.std.proofs.lemmas.List.{length-append}
use Rattle.std.proofs.lemmas.Str.Pattern.{split_once_first, split_parts}
use Rattle.query_script.proofs.part.split_command.Goals as goal

pub returns-in-Some : goal.returns-in-Some
returns-in-Some c =
    let first = split_once_first 32 c.args.line.now (Some (c.in-Some.word, c.in-Some.rest)) c.in-Some.ensures.cases
    (omega arith) in
    let parts = split_parts 32 c.args.line.now (Some (c.in-Some.word, c.in-Some.rest)) c.in-Some.ensures.cases
    (omega arith) in
    record {
      word = first.1;
      rest = first.2;
      shorter = omega (arith, ap length parts.0, length-append c.in-Some.word.now (32 ∷ c.in-Some.rest.now));
    }
