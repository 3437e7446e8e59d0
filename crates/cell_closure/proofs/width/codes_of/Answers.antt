use Rattle.std.proofs.Common.{◌≡◌, ◌∙◌, ◌<◌, length, arith}
use Rattle.std.proofs.lemmas.List.{length-set}
use Rattle.base_table.specs.Places.{row_at}
use Rattle.cell_core.specs.Entry.{IsCode}
use Rattle.cell_closure.specs.Parts.{code_at}
use Rattle.cell_closure.proofs.Rows.{code_is}
use Rattle.cell_closure.proofs.Widths.{filled}
use Rattle.cell_closure.proofs.width.codes_of.Goals as goal

pub dims-preserved : goal.dims-preserved
dims-preserved g c =
    let lt : c.dims.dim < length c.dims.codes
    = omega (arith, c.dims.invariant.long, c.requires.width, c.dims-test.true, c.dims-dim-end.ensures.value) in
    record {
      long = length-set c.dims.codes c.dims.dim c.code.result ∙ c.dims.invariant.long;
      value = filled c.dims.codes c.dims.dim c.code.result (λ j x. x ≡ code_at c.args.table.now j c.args.row) lt
          c.dims.invariant.value
          (code_is (row_at c.args.table.now c.args.row.0) c.dims.dim c.code.result c.requires.row c.code.ensures.value);
      small = filled c.dims.codes c.dims.dim c.code.result (λ j x. IsCode x) lt c.dims.invariant.small
          c.code.ensures.small;
    }
