use Rattle.std.proofs.Common.{◌≡◌, ◌<◌, ◌+◌, ◌∙◌, ◌++◌, ◌∷◌, List, [], ap, ap₂, append-nil, append_assoc, arith, false, length}
use Rattle.std.proofs.Common.{refl, sym, take, true}
use Rattle.base_table.specs.Places.{Places, rows_of}
use Rattle.csv_load.specs.Batch.{change_at, inserted, is_deletion}
use Rattle.cube_defs.specs.Rows.{Row}
use Rattle.cube_defs.specs.Text.{Text}
use Rattle.value_dict.specs.TextLists.{TextLists}
use Rattle.warehouse.specs.Batch.{texts_after, with_tuple}
use Rattle.warehouse.specs.Steps.{IsOver}
use Rattle.warehouse.specs.Stored.{decoded_rows}
use Rattle.warehouse.proofs.Changes.{deletion-keeps, inserted-more, tuple_of}
use Rattle.warehouse.proofs.Inserting.{adds-adds, new-row, room-row}
use Rattle.warehouse.proofs.TreeInsertions.{prefix-same}
use Rattle.warehouse.proofs.Texts.{after-more, after-same, longer-after, longer-same, over-longer}
use Rattle.warehouse.proofs.changing.insert_table_rows.Goals as goal
use Rattle.warehouse.proofs.changing.insert_table_rows.Goals.{then-not-is_delete+in-Ok, else-not-is_delete}

pub changes-init : goal.changes-init
changes-init c = record {
  inserted = record {
    rows = sym (append-nil (decoded_rows c.args.dict.now.lists c.args.table.now));
    lists = refl;
    known
        = c.requires.can.known;
  };
  adds = record {
    longer = longer-same c.args.dict.now.lists;
    most_texts = refl;
    dictionary = c.requires.can.dictionary;
    front = prefix-same c.args.table.now;
    frame = refl;
  };
  cell = refl;
}

pub insert_table_row-requires-clause-new : goal.insert_table_row-requires-clause-new
insert_table_row-requires-clause-new c =
    let changes = c.args.batch.now.changes in
    let k = c.changes.before in
    let lt : k < length changes = omega (arith, c.changes-test.true, c.len-before-end.ensures.count) in
    let is : is_deletion (change_at changes (k + 1)) ≡ false
    = grind (arith, c.is_delete.ensures, c.if-not-is_delete.true) in
    new-row c.changes.dict.lists c.args.dict.now.lists (rows_of c.changes.table) (rows_of c.args.table.now) changes k
    c.changes.invariant.inserted.rows c.requires.once c.requires.new lt is

pub insert_table_row-requires-clause-room : goal.insert_table_row-requires-clause-room
insert_table_row-requires-clause-room c =
    let changes = c.args.batch.now.changes in
    let k = c.changes.before in
    let lt : k < length changes = omega (arith, c.changes-test.true, c.len-before-end.ensures.count) in
    let is : is_deletion (change_at changes (k + 1)) ≡ false
    = grind (arith, c.is_delete.ensures, c.if-not-is_delete.true) in
    let max : c.changes.table.max ≡ c.args.table.now.max = ap (λ (t : Places). t.max) c.changes.invariant.adds.frame in
    rw max (room-row c.changes.dict.lists c.args.dict.now.lists (rows_of c.changes.table)
    (rows_of c.args.table.now) changes k c.args.table.now.max c.changes.invariant.inserted.rows
    c.requires.room lt is)

pub returns-in-Err-clause-full : goal.returns-in-Err-clause-full
returns-in-Err-clause-full c = λ e.
    let lists = c.args.dict.now.lists in
    let changes = c.args.batch.now.changes in
    let k = c.changes.before in
    let lt : k < length changes = omega (arith, c.changes-test.true, c.len-before-end.ensures.count) in
    let is : is_deletion (change_at changes (k + 1)) ≡ false
    = grind (arith, c.is_delete.ensures, c.if-not-is_delete.true) in
    let here : IsOver c.changes.dict.max (with_tuple c.changes.dict.lists (tuple_of (change_at changes (k + 1))))
    = c.in-Err.ensures.full e in
    let same : with_tuple c.changes.dict.lists (tuple_of (change_at changes (k + 1))) ≡ texts_after lists
    (take (k + 1) changes) =
    ap (λ (ls : List (List Text)). with_tuple ls (tuple_of (change_at changes (k + 1))))
    c.changes.invariant.inserted.lists ∙ sym (after-more lists changes k lt is) in
    let over : IsOver c.args.dict.now.max (texts_after lists (take (k + 1) changes))
    = rw (same, c.changes.invariant.adds.most_texts) at here in
    over-longer c.args.dict.now.max (texts_after lists (take (k + 1) changes)) (texts_after lists changes)
    (longer-after lists changes (k + 1)) over

pub returns-in-Err-clause-adds : goal.returns-in-Err-clause-adds
returns-in-Err-clause-adds c
    = adds-adds c.args.dict.now c.changes.dict c.insert_table_row.new.dict c.args.table.now c.changes.table
    c.insert_table_row.new.table c.changes.invariant.adds c.insert_table_row.ensures.adds

pub changes-preserved : goal.changes-preserved
changes-preserved c =
    let inv = c.changes.invariant in
    let lists = c.args.dict.now.lists in
    let first = decoded_rows lists c.args.table.now in
    let changes = c.args.batch.now.changes in
    let k = c.changes.before in
    let change = change_at changes (k + 1) in
    let lt : k < length changes = omega (arith, c.changes-test.true, c.len-before-end.ensures.count) in
    elim c.if-not-is_delete.branch [
      | then-not-is_delete+in-Ok w ↦
          let is : is_deletion change ≡ false = grind (arith, c.is_delete.ensures, w.if-not-is_delete.true) in
          record {
            inserted = record {
              rows = ap₂ (λ (d : TextLists) (t : Places). decoded_rows d.lists t) w.dict-is w.table-is
                  ∙ w.in-Ok.ensures.inserted.rows
                  ∙ ap (λ (rows : List (Row Text)). rows ++ inserted (change ∷ [])) inv.inserted.rows
                  ∙ append_assoc first (inserted (take k changes)) (inserted (change ∷ []))
                  ∙ ap (λ (rows : List (Row Text)). first ++ rows) (sym (inserted-more changes k lt));
              lists = ap (λ (d : TextLists). d.lists) w.dict-is
                  ∙ w.in-Ok.ensures.inserted.lists
                  ∙ ap (λ (ls : List (List Text)). with_tuple ls (tuple_of change)) inv.inserted.lists
                  ∙ sym (after-more lists changes k lt is);
              known = rw (w.dict-is, w.table-is) w.in-Ok.ensures.inserted.known;
            };
            adds = rw (w.dict-is, w.table-is)
                (adds-adds c.args.dict.now c.changes.dict w.insert_table_row.new.dict c.args.table.now c.changes.table
                w.insert_table_row.new.table inv.adds w.insert_table_row.ensures.adds);
            cell = rw w.cell-is (w.in-Ok.ensures.cell_dims ∙ inv.cell);
          }
      | else-not-is_delete w ↦
          let is : is_deletion change ≡ true = grind (arith, c.is_delete.ensures, w.if-not-is_delete.false) in
          record {
            inserted = record {
              rows = ap₂ (λ (d : TextLists) (t : Places). decoded_rows d.lists t) w.dict-is w.table-is
                  ∙ inv.inserted.rows ∙ ap (λ (rows : List (Row Text)). first ++ rows)
                  (sym (deletion-keeps changes k lt is));
              lists = ap (λ (d : TextLists). d.lists) w.dict-is ∙ inv.inserted.lists
                  ∙ sym (after-same lists changes k lt is);
              known = rw (w.dict-is, w.table-is) inv.inserted.known;
            };
            adds = rw (w.dict-is, w.table-is) inv.adds;
            cell = rw w.cell-is inv.cell;
          }
    ]
