use Rattle.std.proofs.Common.{take}
use Rattle.range_query.proofs.ChildLists.{IsFirstOf}
use Rattle.range_query.proofs.children.Children.next.Given as goal

abbrev pub invariant-children : goal.invariant-children
invariant-children l = IsFirstOf l.from l.end (take l.k l.self.items) l.place l.node.0
