use Rattle.std.proofs.Common.{◌∙◌, ap, arith, sym}
use Rattle.std.proofs.lemmas.List.{take_all}
use Rattle.cube_defs.specs.Cell.{cell_of}
use Rattle.base_table.specs.Store.{code_or_any}
use Rattle.base_table.proofs.Widths.{cell_more, cell_same, cell_stops, code_is}
use Rattle.base_table.proofs.lines.is_cell.Goals as goal

pub returns-then-code_or_any-codes : goal.returns-then-code_or_any-codes
returns-then-code_or_any-codes c =
    sym (cell_stops c.args.codes.now c.args.tuple.now c.codes.i c.codes-test.true
    (λ e. c.if-code_or_any-codes.true (c.code_or_any.ensures ∙ ap code_or_any c.get.ensures.value ∙ e)))

pub codes-preserved : goal.codes-preserved
codes-preserved c =
    cell_more c.args.codes.now c.args.tuple.now c.codes.i c.codes-test.true (omega arith) c.codes.invariant
    (sym c.get.ensures.value ∙ code_is _ _ (sym c.code_or_any.ensures ∙ c.if-code_or_any-codes.false)
    (c.requires.small c.codes.i 0 c.codes-test.true))

pub returns : goal.returns
returns c =
    sym (cell_same (cell_of c.args.codes.now) c.args.tuple.now
    (ap cell_of (sym (take_all c.codes.i c.args.codes.now c.codes-test.false)) ∙ sym c.codes.invariant
    ∙ take_all c.codes.i c.args.tuple.now (omega arith)))
