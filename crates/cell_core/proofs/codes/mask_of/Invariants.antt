use Rattle.std.proofs.Common.{◌≡◌, drop}
use Rattle.cube_defs.specs.Cell.{mask}
use Rattle.cell_core.specs.Codes.{entries_of}
use Rattle.cell_core.proofs.codes.mask_of.Given as goal

abbrev pub invariant-loop-i : goal.invariant-loop-i
invariant-loop-i l = l.mask ≡ mask (entries_of (drop l.i l.c))
