use Rattle.std.proofs.Common.{Err, Ok, Result, ◌≡◌, ℕ, refl, subst, sym}
use Rattle.std.proofs.lemmas.List.Elements.{All-push}
use Rattle.base_table.specs.Places.{Places, row_of, rows_of}
use Rattle.csv_load.specs.Batch.{change_at}
use Rattle.cube_defs.specs.Rows.{Row}
use Rattle.value_dict.specs.Decoded.{AreCodes}
use Rattle.value_dict.specs.declared.Learn.{Learn}
use Rattle.value_dict.specs.declared.Learn.TheVariants as learns
use Rattle.warehouse.specs.Changing.{OnlyAdds}
use Rattle.warehouse.proofs.Growing.{known-longer, row-inserted}
use Rattle.warehouse.proofs.TreeInsertions.{prefix-same}
use Rattle.warehouse.proofs.changing.insert_table_row.Goals as goal

pub returns-in-Ok-insert-clause-inserted : goal.returns-in-Ok-insert-clause-inserted
returns-in-Ok-insert-clause-inserted c =
    let now = c.learn_tuple.new.dict.lists in record {
      rows =
          row-inserted c.args.dict.now.lists now (rows_of c.args.table.now) (rows_of c.insert.new.self)
          (change_at c.args.batch.now.changes c.args.k) c.learn_tuple.new.cell c.id.result c.amounts.result.now
          c.requires.insertion.inserts c.id.ensures c.in-Ok.ensures.learnt.texts c.amounts.ensures c.in-Ok.ensures.longer
          c.requires.can.known c.in-Ok-insert.ensures.rows;
      lists = c.in-Ok.ensures.learnt.lists;
      known =
          rw c.in-Ok-insert.ensures.rows
          (All-push (λ (row : Row ℕ). AreCodes now row.tuple) (rows_of c.args.table.now)
          (row_of c.id.result c.learn_tuple.new.cell c.amounts.result.now)
          (known-longer c.args.dict.now.lists now (rows_of c.args.table.now) c.in-Ok.ensures.longer
          c.requires.can.known) c.in-Ok.ensures.learnt.codes);
    }

ok-is-not-full : (r : Result (Unit {0}) Learn) → r ≡ Ok tt → r ≡ Err learns.Full → ⊥
ok-is-not-full r ok full = cc

memory-is-not-full : (r : Result (Unit {0}) Learn) → r ≡ Err learns.Memory → r ≡ Err learns.Full → ⊥
memory-is-not-full r memory full = cc

pub returns-in-Err-clause-adds : goal.returns-in-Err-clause-adds
returns-in-Err-clause-adds c = record {
  longer = c.learn_tuple.ensures.longer;
  most_texts = c.learn_tuple.ensures.max;
  dictionary = c.learn_tuple.ensures.dictionary;
  front = prefix-same c.args.table.now;
  frame = refl;
}

pub returns-in-Err-Memory-clause-adds : goal.returns-in-Err-Memory-clause-adds
returns-in-Err-Memory-clause-adds c =
    subst (λ (t : Places). OnlyAdds c.args.dict.now c.learn_tuple.new.dict c.args.table.now t)
    (sym c.in-Err-Memory.ensures.err)
    (record {
      longer = c.learn_tuple.ensures.longer;
      most_texts = c.learn_tuple.ensures.max;
      dictionary = c.learn_tuple.ensures.dictionary;
      front = prefix-same c.args.table.now;
      frame = refl;
    })
