use Rattle.std.proofs.Common.{ap, arith, length}
use Rattle.qc_arena.specs.Numbers.{Numbers}
use Rattle.qc_arena.proofs.Runs.{long}
use Rattle.qc_arena.proofs.number_list.NumberList.len.Goals as goal

pub returns-clause-value : goal.returns-clause-value
returns-clause-value c =
    let m = c.self.inside in
    omega (
      arith,
      ap length c.as_slice.ensures.value,
      ap (λ (n : Numbers). length n.items) c.self.view_is,
      long m.listed.items m.first m.end,
    )
