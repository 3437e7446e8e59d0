use Rattle.std.proofs.Common.{refl, arith}
use Rattle.std.proofs.lemmas.Nat.{one_shl}
use Rattle.batch_insert.proofs.Masks.{front_mask}
use Rattle.batch_insert.proofs.shared.prefix_mask.Goals as goal

pub returns : goal.returns
returns c = front_mask c.args.insertion.now.tuple.now c.args.dim _ _ c.args.insertion.now.is.no_any c.requires
    (one_shl c.args.dim 16 (omega (arith, c.requires, c.args.insertion.now.is.few))) refl
