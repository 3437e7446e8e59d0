use Rattle.std.proofs.Common.{rules, ◌≡◌, ◌<◌, ◌+◌, ◌∙◌, [], ◌∷◌, ◌++◌, IsUtf8, length, arith, drop, get_or, subst, sym, ap}
use Rattle.std.proofs.lemmas.List.{drop_more}
use Rattle.std.proofs.lemmas.Result.{err_from_is_err_and}
use Rattle.std.proofs.lemmas.List.Elements.{All-get_or}
use Rattle.csv.specs.Records.{fields_of}
use Rattle.query_script.proofs.record.push_fields.Goals as goal
use Rattle.text_lines.proofs.CallerLemmas.{field-within}

pub unwrap-text-requires : goal.unwrap-text-requires
unwrap-text-requires c =
    let lt : c.fields.at < length (fields_of c.args.row.now) = omega (arith, c.len-at-end.ensures) in
    let text = subst IsUtf8 (sym c.field.ensures)
    (All-get_or IsUtf8 (fields_of c.args.row.now) c.fields.at [] lt c.requires.text) in
    search (rules, text)

pub returns-in_err-push_field-clause-err : goal.returns-in_err-push_field-clause-err
returns-in_err-push_field-clause-err c =
    let all = fields_of c.args.row.now in
    let lt : c.fields.at < length all = omega (arith, c.len-at-end.ensures) in
    let read = rw c.unwrap-text.ensures at c.from_utf8.ensures.cases in
    let text : c.unwrap-text.result.now ≡ get_or all c.fields.at [] = read.0 ∙ c.field.ensures in
    let cut : drop c.fields.at all ≡ c.unwrap-text.result.now ∷ drop (c.fields.at + 1) all
    = rw text (drop_more all c.fields.at [] lt) in
    let p = err_from_is_err_and c.from_residual.result c.from_residual.ensures.1 in
    rw p.1 (λ more. rw (p.2, ← (c.fields.invariant.asked more), cut)
    (c.in_err-push_field.ensures.err (drop (c.fields.at + 1) all ++ more)))

pub invariant_of-push_field : goal.invariant_of-push_field
invariant_of-push_field c =
    let all = fields_of c.args.row.now in
    let read = rw c.unwrap-text.ensures at c.from_utf8.ensures.cases in
    let text : c.unwrap-text.result.now ≡ get_or all c.fields.at [] = read.0 ∙ c.field.ensures in
    record { short = omega (arith, ap length text, field-within all c.fields.at, c.requires.size) }
