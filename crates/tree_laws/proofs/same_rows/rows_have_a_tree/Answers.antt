use Rattle.tree_laws.proofs.Existence.{made, made_canonical}
use Rattle.tree_laws.proofs.same_rows.rows_have_a_tree.Goals as goal

pub returns : goal.returns
returns g c =
    λ dims measures rows wide. (
      made g.met.V.Ord.total g.met.V.Value.apart measures rows,
      made_canonical g.met.V.Ord.total g.met.V.Value.apart measures rows dims wide,
    )
