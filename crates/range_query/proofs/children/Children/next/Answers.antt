use Rattle.std.proofs.Common.{ap, arith, rules}
use Rattle.range_query.proofs.ChildLists.{first_found, first_kept}
use Rattle.range_query.proofs.children.Children.next.Goals.{then-from-child+then-child-place, else-from-child}
use Rattle.range_query.proofs.children.Children.next.Goals.{else-from-child-via-then-from-child+else-child-place}
use Rattle.range_query.proofs.children.Children.next.Goals.{else-from-child-via-else-from-child}
use Rattle.range_query.proofs.children.Children.next.Goals as goal

pub children-preserved : goal.children-preserved
children-preserved c = elim c.if-from-child.branch [
  | then-from-child+then-child-place w ↦
      first_found c.args.from c.args.end c.args.self.now.items c.children.k (record { place = 0; node = record { 0 = 0 } })
      (search rules) c.children.place
      c.children.node.0 c.children.invariant w.if-from-child.true w.if-child-place.true _ _ w.place-is
      (ap (λ n. n.0) w.node-is)
  | else-from-child w ↦
      first_kept c.args.from c.args.end c.args.self.now.items c.children.k (record { place = 0; node = record { 0 = 0 } })
      (search rules) c.children.place
      c.children.node.0 c.children.invariant
      (λ a b. elim w.else-from-child.branch [
        | else-from-child-via-then-from-child+else-child-place v ↦ omega (arith, b, v.if-child-place.false)
        | else-from-child-via-else-from-child v ↦ omega (arith, a, v.if-from-child.false)
      ]) _ _ w.place-is (ap (λ n. n.0) w.node-is)
]
