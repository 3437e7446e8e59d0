use Rattle.std.proofs.Common.{arith}
use Rattle.cell_core.proofs.CodesLemmas.{mask_fits_from}
use Rattle.cell_core.proofs.codes.mask_of.Goals as goal

pub overflow_mul-mask : goal.overflow_mul-mask
overflow_mul-mask c = omega (arith, mask_fits_from c.args.c.now c.loop-i.i c.requires c.loop-i-test.true)

pub overflow_add-mask : goal.overflow_add-mask
overflow_add-mask c = omega (arith, mask_fits_from c.args.c.now c.loop-i.i c.requires c.loop-i-test.true)
