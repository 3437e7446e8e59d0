use Rattle.std.proofs.Common.{◌≡◌, ◌-◌, arith, length, map, subst, sym}
use Rattle.base_table.specs.Places.{with_code}
use Rattle.tree_search.specs.Found.{IsTreeOf}
use Rattle.warehouse.specs.ClassMoves.{HaveChildren}
use Rattle.warehouse.proofs.ChildLists.{can_narrow, narrowed}
use Rattle.warehouse.proofs.Wider.{is-wide, tree-wide}
use Rattle.warehouse.proofs.widening.widen_indexed.Goals as goal

pub widen_tree-requires-clause-wide : goal.widen_tree-requires-clause-wide
widen_tree-requires-clause-wide g c = is-wide c.args.tree.now.width c.args.tree.now.now _ c.requires.tree.1

pub index_of_classes-requires-clause-tree : goal.index_of_classes-requires-clause-tree
index_of_classes-requires-clause-tree g c =
    let schema = c.args.wide.now in
    let before = c.args.tree.now in
    let after = c.widen_tree.new.tree.now in
    let rows = map (with_code 0) c.requires.tree.0 in
    let from = tree-wide before.width (length schema.measures) c.requires.tree.0 before.now after c.requires.tree.1
    c.in-Ok.ensures.kept in (
      rows,
      subst (λ n. IsTreeOf n after (record { measures = length schema.measures; rows = rows })) (sym c.requires.dims) from,
    )

pub narrow_tree-requires-clause-moved : goal.narrow_tree-requires-clause-moved
narrow_tree-requires-clause-moved g c =
    let old = c.args.classes.now.items in
    let have = can_narrow c.args.tree.now c.widen_tree.new.tree (length old) old c.widen_tree.new.classes.items
    c.in-Ok.ensures.rest c.in-Ok.ensures.moved in
    let all : length old ≡ c.len-count.result = omega (arith, c.len-count.ensures, have.long) in (
      c.args.tree.now.now,
      old,
      subst (λ n. HaveChildren (c.widen_tree.new.tree.width - 1) n c.args.tree.now.now c.widen_tree.new.tree.now old
          c.widen_tree.new.classes.items) all have,
    )

pub returns-in-Err-index_of_classes-clause-err : goal.returns-in-Err-index_of_classes-clause-err
returns-in-Err-index_of_classes-clause-err g c =
    let old = c.args.classes.now.items in
    let have = can_narrow c.args.tree.now c.widen_tree.new.tree (length old) old c.widen_tree.new.classes.items
    c.in-Ok.ensures.rest c.in-Ok.ensures.moved in
    let all : length old ≡ c.len-count.result = omega (arith, c.len-count.ensures, have.long) in
    narrowed c.args.tree.now c.widen_tree.new.tree c.narrow_tree.new.tree c.in-Ok.ensures.rest
    c.narrow_tree.ensures.rest
    (c.narrow_tree.ensures.back c.args.tree.now.now old
    (subst (λ n. HaveChildren (c.widen_tree.new.tree.width - 1) n c.args.tree.now.now c.widen_tree.new.tree.now old
    c.widen_tree.new.classes.items) all have))
