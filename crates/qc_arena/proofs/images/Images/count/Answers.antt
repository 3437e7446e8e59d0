use Rattle.std.proofs.Common.{arith}
use Rattle.qc_arena.proofs.Looked.{counted}
use Rattle.qc_arena.proofs.images.Images.count.Goals as goal

pub returns : goal.returns
returns c =
    let m = c.self.inside in
    let all = counted c.args.self.now m.changed.items m.added.items c.self.invariant.0 c.self.view_is in
    omega (arith, all)
