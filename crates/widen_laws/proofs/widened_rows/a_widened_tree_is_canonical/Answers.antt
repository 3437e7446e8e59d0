use Rattle.widen_laws.proofs.WidenedTrees.{widened_canonical}
use Rattle.widen_laws.proofs.widened_rows.a_widened_tree_is_canonical.Goals as goal

pub returns : goal.returns
returns g c = λ n measures rows v child tree wide width canonical is. widened_canonical g.met.V.Ord.total
    g.met.V.Value.apart v n measures rows width tree wide child canonical is
