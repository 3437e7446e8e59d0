use Rattle.std.proofs.Common.{◌≡◌}
use Rattle.value_dict.proofs.Compared.{from}
use Rattle.value_dict.proofs.Dict.cell_cmp.Given as goal

abbrev pub invariant-dims : goal.invariant-dims
invariant-dims l = from l.self.lists l.a l.b 0 ≡ from l.self.lists l.a l.b l.dim
