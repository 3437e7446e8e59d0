use Rattle.std.proofs.Common.{◌<◌, [], arith, length}
use Rattle.cube_snapshot.specs.Parts.{texts}
use Rattle.cube_snapshot.proofs.Putting.{put_all, put_next}
use Rattle.cube_snapshot.proofs.writing.put_dict.Goals as goal

pub dims-preserved : goal.dims-preserved
dims-preserved c =
    let lists = c.args.contents.now.dict.now.lists in
    let lt : c.dims.dim < length lists = omega (arith, c.dims-test.true, c.dims-dim-end.ensures.value) in
    put_next texts.put c.dims.out.items c.put_texts.new.out.items c.args.out.now.items lists c.dims.dim
    [] lt c.dims.invariant c.in_ok-put_texts.ensures

pub returns : goal.returns
returns c = put_all texts.put c.dims.out.items c.args.out.now.items c.args.contents.now.dict.now.lists c.dims.dim
    (omega (arith, c.dims-test.false, c.dims-dim-end.ensures.value)) c.dims.invariant
