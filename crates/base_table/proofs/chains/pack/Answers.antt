use Rattle.base_table.proofs.Keep.{skip_pack, step_pack}
use Rattle.base_table.proofs.chains.pack.Goals as goal
use Rattle.base_table.proofs.chains.pack.Goals.{then-kept-i, else-kept-i}

pub keys-preserved : goal.keys-preserved
keys-preserved g c = elim c.if-kept-i.branch [
  | then-kept-i w ↦
      rw (w.keys-is, w.len-is)
      (step_pack c.keys.keys c.args.kept.now c.args.keys.now c.keys.i c.keys.len w.index-keys-i.result c.keys-test.true
      c.requires c.keys.auto.keys w.if-kept-i.true w.index-keys-i.is c.keys.invariant)
  | else-kept-i w ↦
      rw (w.keys-is, w.len-is)
      (skip_pack c.keys.keys c.args.kept.now c.args.keys.now c.keys.i c.keys.len c.keys-test.true w.if-kept-i.false
      c.keys.invariant)
]
