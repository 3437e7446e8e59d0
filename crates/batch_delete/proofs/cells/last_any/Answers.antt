use Rattle.std.proofs.Common.{◌<◌, ◌∙◌, None, arith, sym}
use Rattle.std.proofs.lemmas.Option.{slice_get_within}
use Rattle.batch_delete.proofs.Entries.{last_is, last_more}
use Rattle.batch_delete.proofs.cells.last_any.Goals as goal

pub dims-init : goal.dims-init
dims-init c = λ j l e. absurd (omega (arith, l, slice_get_within c.args.cell.now j None e))

pub dims-preserved : goal.dims-preserved
dims-preserved c =
    let lt = rw (c.dims-k-end.ensures.value ∙ sym c.dims-in-dims.ensures.value) at c.dims-test.true in
    last_more c.args.cell.now c.dims-in-dims.result c.dims.k c.in-Is.field-0 c.dims-in-dims.ensures.value lt
    c.dims.invariant (sym c.in-Is.ensures.value)

pub returns-in-Any : goal.returns-in-Any
returns-in-Any c =
    let lt : c.dims.k < c.dims-in-dims.result
    = rw (← (c.dims-k-end.ensures.value ∙ sym c.dims-in-dims.ensures.value)) c.dims-test.true in
    record {
      none = tt;
      some = last_is c.args.cell.now c.dims-in-dims.result c.dims.k c.dims-in-dims.ensures.value lt c.dims.invariant
          (sym c.in-Any.ensures.value);
      within = omega (arith, lt, c.dims-in-dims.ensures.value);
    }
