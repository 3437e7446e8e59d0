use Rattle.std.proofs.Common.{arith}
use Rattle.warehouse.proofs.ListedClasses.{from_classes, lists_few}
use Rattle.warehouse.proofs.indexing.filled_index.Goals as goal

pub index_of_listed-requires-clause-nodes : goal.index_of_listed-requires-clause-nodes
index_of_listed-requires-clause-nodes g c = from_classes c.args.tree.now.now c.in-Ok.numbers.items c.in-Ok.ensures.numbers

pub returns-clause-steps : goal.returns-clause-steps
returns-clause-steps g c =
    let few = lists_few c.args.tree.now.now c.in-Ok.numbers.items
    (from_classes c.args.tree.now.now c.in-Ok.numbers.items c.in-Ok.ensures.numbers) in
    omega (arith, few, c.class_numbers.ensures.steps, c.index_of_listed.ensures.steps)
