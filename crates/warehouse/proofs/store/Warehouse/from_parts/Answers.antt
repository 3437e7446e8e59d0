use Rattle.std.proofs.Common.{Err, ◌≡◌, ◌<◌, ℕ, ap, subst}
use Rattle.base_table.specs.Places.{rows_of}
use Rattle.warehouse.specs.declared.refused.PartsRefused.TheVariants.{NodesFull}
use Rattle.warehouse.proofs.Counted.{nodes-decoded}
use Rattle.warehouse.proofs.Trees.{is-held}
use Rattle.warehouse.proofs.store.Warehouse.from_parts.Goals as goal

pub returns-in-Ok-clause-valid : goal.returns-in-Ok-clause-valid
returns-in-Ok-clause-valid g c =
    is-held c.args.schema (record {
      table = c.args.table;
      dict = c.args.dict;
      tree = c.in-Ok.tree;
      alloc
          = c.args.alloc;
    }) c.in-Ok.index
    (record { stored = c.requires; kept = c.in-Ok.ensures.tree; indexed = c.in-Ok.ensures.index })

pub returns-in-Err-clause-nodes_full : goal.returns-in-Err-clause-nodes_full
returns-in-Err-clause-nodes_full g c = λ e.
    let same : c.in-Err.refused ≡ NodesFull = cc in
    subst (λ (n : ℕ). c.args.schema.nodes < n)
    (nodes-decoded c.args.dict.lists (rows_of c.args.table) c.requires.known c.requires.dictionary.distinct)
    (c.in-Err.ensures.full (ap Err same))
