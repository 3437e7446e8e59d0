use Rattle.std.proofs.Common.{subst}
use Rattle.value_dict.specs.TextLists.{IsDictionary}
use Rattle.warehouse.specs.State.{IsIndexed}
use Rattle.warehouse.specs.Stored.{IsTreeOfTable, IsStored}
use Rattle.warehouse.proofs.States.{stored-empty}
use Rattle.warehouse.proofs.Trees.{kept-empty}
use Rattle.warehouse.proofs.store.Warehouse.with_keys.Goals as goal

pub invariant_of-result : goal.invariant_of-result
invariant_of-result c =
    let schema = c.args.schema in
    let rows = c.in-Ok.ensures in
    let made = c.in-Ok-no_tree.ensures in
    let stored : IsStored schema c.in-Ok.dict c.in-Ok.table
    = rw (rows.texts, rows.rows)
    (stored-empty schema c.no_rows.ensures.layout (subst IsDictionary rows.texts rows.dictionary)) in
    let kept : IsTreeOfTable schema c.in-Ok.table c.in-Ok-no_tree.tree
    = rw (rows.rows, made.tree) (kept-empty schema) in
    let indexed : IsIndexed schema c.in-Ok-no_tree.tree.now c.in-Ok-no_tree.index = rw (made.tree) made.index in
    record { stored = stored; kept = kept; indexed = indexed }
