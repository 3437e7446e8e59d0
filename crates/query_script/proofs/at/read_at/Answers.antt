use Rattle.std.proofs.Common.{◌≡◌, Ok}
use Rattle.std.specs.Prelude.{Err, IfSome}
use Rattle.std.proofs.lemmas.Result.{err_from_is_err_and}
use Rattle.query_script.specs.Commands.{pin_name_in, query_in_line}
use Rattle.query_script.specs.Faults.{line_fault_in}
use Rattle.query_script.specs.Lines.{rest_of, word_of}
use Rattle.query_script.proofs.AtNames.{at-asks, at-unasked, at-unnamed}
use Rattle.query_script.proofs.at.read_at.Goals as goal

pub returns-in_err-name : goal.returns-in_err-name
returns-in_err-name c =
    let o = line_fault_in c.in_err-name.field-0.0 in
    let named : IfSome o (λ fault. pin_name_in (word_of c.args.rest.now.text.now) ≡ Err fault)
    = rw c.split.ensures.word at c.in_err-name.ensures in
    let p = err_from_is_err_and c.from_residual.result c.from_residual.ensures.1 in
    rw (p.1, p.2) (at-unnamed o c.args.schema.now c.args.rest.now.text.now named)

pub returns-in_err-read_query_line : goal.returns-in_err-read_query_line
returns-in_err-read_query_line c =
    let o = line_fault_in c.in_err-read_query_line.field-0.0 in
    let named : pin_name_in (word_of c.args.rest.now.text.now) ≡ Ok c.in_ok-name.name
    = rw c.split.ensures.word at c.in_ok-name.ensures in
    let asked : IfSome o (λ fault. query_in_line c.args.schema.now (rest_of c.args.rest.now.text.now) ≡ Err fault)
    = rw c.split.ensures.rest at c.in_err-read_query_line.ensures in
    let p = err_from_is_err_and c.from_residual-in_err-read_query_line.result
    c.from_residual-in_err-read_query_line.ensures.1 in
    rw (p.1, p.2) (at-unasked o c.args.schema.now c.args.rest.now.text.now c.in_ok-name.name named asked)

pub returns : goal.returns
returns c = at-asks c.args.schema.now c.args.rest.now.text.now c.in_ok-name.name _
    (rw c.split.ensures.word at c.in_ok-name.ensures)
    (rw c.split.ensures.rest at c.in_ok-read_query_line.ensures)
