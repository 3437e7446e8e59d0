use Rattle.tree_laws.proofs.SameTree.{name, same_tree}
use Rattle.tree_laws.proofs.same_rows.trees_of_the_same_rows.Goals as goal

pub returns : goal.returns
returns g c = λ measures rows tree other a b. (name tree other a b, same_tree tree other a b)
