use Rattle.std.proofs.Common.{◌≡◌, ◌<◌, ◌∙◌, ap, subst, sym, arith, length, true, false, Some}
use Rattle.std.proofs.lemmas.Bool.{eqb-false}
use Rattle.std.specs.List.{list_all}
use Rattle.text_lines.specs.Plain.{is_plain_byte, pieces}
use Rattle.query_script.specs.Coded.{AreCoded}
use Rattle.query_script.proofs.CodedFields.{line-coded}
use Rattle.query_script.proofs.coded.read_cell_codes.Goals as goal

pub returns-in-Some-true-clause-coded : goal.returns-in-Some-true-clause-coded
returns-in-Some-true-clause-coded c =
    let rest = c.in-Some.rest.now in
    let cell = c.put_codes.new.cell in
    let some : 0 < length rest
    = omega (arith, eqb-false (length rest) 0 (sym c.is_empty.ensures ∙ c.if-is_empty.false)) in
    let plain : list_all is_plain_byte rest ≡ true = ap (list_all is_plain_byte) (sym c.in-Ok.ensures.cases.0)
    ∙ sym c.is_plain.ensures ∙ c.if-is_plain.true in
    let coded = subst (λ text. AreCoded (Some true) c.args.dict.now.lists (pieces text) cell)
    c.in-Ok.ensures.cases.0 (rw c.in-Some-true.field-0-test at c.in-Some-true.ensures.coded) in
    line-coded c.in-Some.query c.args.schema.now c.args.dict.now.lists c.args.line.now rest _ c.in-Some.ensures
    some c.requires.schema c.in-Ok.ensures.cases.1 (sym c.has_byte_order_mark.ensures
    ∙ c.if-has_byte_order_mark.false) plain coded

pub returns-in-Some-false-clause-coded : goal.returns-in-Some-false-clause-coded
returns-in-Some-false-clause-coded c =
    let rest = c.in-Some.rest.now in
    let cell = c.put_codes.new.cell in
    let some : 0 < length rest
    = omega (arith, eqb-false (length rest) 0 (sym c.is_empty.ensures ∙ c.if-is_empty.false)) in
    let plain : list_all is_plain_byte rest ≡ true = ap (list_all is_plain_byte) (sym c.in-Ok.ensures.cases.0)
    ∙ sym c.is_plain.ensures ∙ c.if-is_plain.true in
    let coded = subst (λ text. AreCoded (Some false) c.args.dict.now.lists (pieces text) cell)
    c.in-Ok.ensures.cases.0 (rw c.in-Some-false.field-0-test at c.in-Some-false.ensures.coded) in
    line-coded c.in-Some.query c.args.schema.now c.args.dict.now.lists c.args.line.now rest _ c.in-Some.ensures
    some c.requires.schema c.in-Ok.ensures.cases.1 (sym c.has_byte_order_mark.ensures
    ∙ c.if-has_byte_order_mark.false) plain coded
