use Rattle.std.proofs.Common.{◌∙◌, sym, refl, arith, Some, None}
use Rattle.text_lines.proofs.CallerLemmas.{split-cut}
use Rattle.query_script.proofs.Listed.{interval-long, interval-two}
use Rattle.query_script.proofs.values.read_between.Goals as goal

pub returns-in_default : goal.returns-in_default
returns-in_default c = rw (split-cut 126 c.args.ends.now None c.in_default.ensures.cases (omega arith)) refl

pub returns-then-is_some : goal.returns-then-is_some
returns-then-is_some c =
    let first = split-cut 126 c.args.ends.now (Some (c.in-Some.low, c.in-Some.high)) c.in-Some.ensures.cases
    (omega arith) in
    interval-long c.args.ends.now c.in-Some.low.now c.in-Some.high.now first c.split_once-2.result
    c.split_once-2.ensures.cases (sym c.is_some.ensures ∙ c.if-is_some.true)

pub returns : goal.returns
returns c =
    let first = split-cut 126 c.args.ends.now (Some (c.in-Some.low, c.in-Some.high)) c.in-Some.ensures.cases
    (omega arith) in
    rw (c.in_ok-new.ensures, c.in_ok-new-2.ensures)
    (interval-two c.args.ends.now c.in-Some.low.now c.in-Some.high.now first c.split_once-2.result
    c.split_once-2.ensures.cases (sym c.is_some.ensures ∙ c.if-is_some.false))
