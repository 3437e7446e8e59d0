use Rattle.std.proofs.Common.{arith}
use Rattle.base_table.specs.Places.{rows_of}
use Rattle.cube_snapshot.proofs.Putting.{laid-len}
use Rattle.cube_snapshot.proofs.sizes.snapshot_len.Goals as goal

pub returns : goal.returns
returns c =
    let t = c.args.contents.now.table.now in
    omega (
      arith,
      laid-len c.args.contents.now.schema.now.items c.args.contents.now.dict.now.lists t.dims t.measures (rows_of t),
      c.dict_len-texts.ensures.value,
      c.rows_len.ensures.value,
    )
