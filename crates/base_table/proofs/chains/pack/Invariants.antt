use Rattle.base_table.proofs.Keep.{IsPacked}
use Rattle.base_table.proofs.chains.pack.Given as goal

abbrev pub invariant-keys : goal.invariant-keys
invariant-keys g l = IsPacked l.keys l.kept l.fn.keys l.i l.len
