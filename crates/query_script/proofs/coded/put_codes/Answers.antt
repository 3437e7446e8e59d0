use Rattle.std.proofs.Common.{◌∙◌, refl, rules, arith}
use Rattle.query_script.proofs.CodedFields.{all-read, none-read, one-more}
use Rattle.query_script.proofs.coded.put_codes.Goals as goal

pub dims-init : goal.dims-init
dims-init c = record { dims = c.requires; read = none-read _ _ _; text = search rules }

pub dims-preserved : goal.dims-preserved
dims-preserved c = record {
  dims = c.put_entry-known.ensures.dims ∙ c.dims.invariant.dims;
  read =
      one-more c.args.dict.now.lists _ c.dims.known c.put_entry-known.result c.dims.more c.split_piece-comma.result.2
      c.dims.left.now c.split_piece-comma.result.0.now c.split_piece-comma.result.1.now c.dims.cell
      c.put_entry-known.new.cell c.dims.dim c.in-Some.found
      (omega (arith, c.dims-dim-end.ensures.value, c.dims-test.true)) c.dims.invariant.dims
      (search rules) c.split_piece-comma.ensures.pieces c.in-Some.ensures.value c.put_entry-known.ensures.value
      c.dims.invariant.read;
  text = c.split_piece-comma.ensures.utf8;
}

pub returns-else-more-clause-coded : goal.returns-else-more-clause-coded
returns-else-more-clause-coded c =
    all-read c.args.dict.now.lists _ _ c.dims.cell c.dims.dim c.dims.known c.dims.invariant.read
    (rw c.if-more.false refl) (omega (arith, c.dims-dim-end.ensures.value, c.dims.auto.dim-end, c.dims-test.false))
    c.dims.invariant.dims
