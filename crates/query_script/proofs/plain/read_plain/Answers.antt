use Rattle.std.proofs.Common.{◌∙◌, ◌≡◌, ◌<◌, [], sym, arith, length, subst, eqb-true}
use Rattle.std.proofs.lemmas.Bool.{eqb-false}
use Rattle.std.proofs.lemmas.Result.{err_from_is_err_and}
use Rattle.std.specs.Prelude.{Err, IfSome}
use Rattle.cell_core.specs.Gives.{Gives}
use Rattle.query_script.specs.Faults.{line_fault_in}
use Rattle.query_script.proofs.PlainFields.{asks-nothing, asks-pieces}
use Rattle.query_script.proofs.plain.read_plain.Goals as goal

pub returns-then-is_empty : goal.returns-then-is_empty
returns-then-is_empty c =
    let none : length c.args.part.now.text.now ≡ 0 = eqb-true (length c.args.part.now.text.now) 0 (sym c.if-is_empty.ensures) in
    subst (λ read. Gives line_fault_in (λ fields. fields) c.check_count.result read)
    (asks-nothing c.args.shape c.args.dims c.args.part.now.text.now c.new.result c.new.ensures none)
    c.check_count.ensures

pub returns-in_err-push_pieces : goal.returns-in_err-push_pieces
returns-in_err-push_pieces c =
    let some : 0 < length c.args.part.now.text.now
    = omega (arith, eqb-false (length c.args.part.now.text.now) 0 (sym c.if-is_empty.ensures)) in
    let p = err_from_is_err_and c.from_residual.result c.from_residual.ensures.1 in
    let asks = asks-pieces c.args.shape c.args.dims c.args.part.now.text.now c.new.result c.new.ensures
    c.requires some in
    rw (p.1, p.2) (subst (λ read. IfSome (line_fault_in c.in_err-push_pieces.field-0.0) (λ fault. read ≡ Err fault))
    asks (c.in_err-push_pieces.ensures.err []))

pub returns : goal.returns
returns c =
    let some : 0 < length c.args.part.now.text.now
    = omega (arith, eqb-false (length c.args.part.now.text.now) 0 (sym c.if-is_empty.ensures)) in
    let asks = asks-pieces c.args.shape c.args.dims c.args.part.now.text.now c.new.result c.new.ensures
    c.requires some in
    subst (λ read. Gives line_fault_in (λ fields. fields) c.check_count-2.result read)
    (c.in_ok-push_pieces.ensures.ok [] ∙ asks) c.check_count-2.ensures
