use Rattle.std.proofs.Common.{Err, List, None, Some, ◌≡◌, ◌≤◌, ◌+◌, ◌∙◌, ℕ, ap, length, map, refl, subst, sym, take, rules}
use Rattle.std.proofs.lemmas.List.{length-map}
use Rattle.std.specs.Option.{option_map}
use Rattle.std.specs.Prelude.{IfSome}
use Rattle.base_table.specs.Places.{Places, rows_of}
use Rattle.csv_load.specs.Batch.{inserted}
use Rattle.cube_defs.specs.Text.{Text}
use Rattle.value_dict.specs.TextLists.{TextLists}
use Rattle.warehouse.specs.Batch as batches
use Rattle.warehouse.specs.Batch.{first_number, full_dim, texts_after}
use Rattle.warehouse.specs.Changing.{AreInserted, CanInsert, OnlyAdds}
use Rattle.warehouse.specs.Steps.{IsOver, is_there}
use Rattle.warehouse.specs.Stored.{refusal_in}
use Rattle.warehouse.proofs.Growing.{cut-back}
use Rattle.warehouse.proofs.Texts.{longer-same}
use Rattle.warehouse.proofs.TreeInsertions.{prefix-same}
use Rattle.warehouse.proofs.changing.add_rows.Goals as goal

pub returns-then-is_err-clause-adds : goal.returns-then-is_err-clause-adds
returns-then-is_err-clause-adds c =
    subst (λ (t : Places). OnlyAdds c.args.dict.now c.args.dict.now c.args.table.now t) (sym c.reserve.ensures)
    (record {
      longer = longer-same c.args.dict.now.lists;
      most_texts = refl;
      dictionary = c.requires.can.dictionary;
      front = prefix-same c.args.table.now;
      frame = refl;
    })

pub returns-in-Err-Full-clause-adds : goal.returns-in-Err-Full-clause-adds
returns-in-Err-Full-clause-adds c =
    let adds
    = subst (λ (t : Places). OnlyAdds c.args.dict.now c.insert_table_rows.new.dict t c.insert_table_rows.new.table)
    c.reserve.ensures c.insert_table_rows.ensures.adds in
    let dict : c.values_full.new.dict ≡ c.args.dict.now =
    c.values_full.ensures.dict
    ∙ cut-back c.args.dict.now c.insert_table_rows.new.dict c.cut_back.new.self
    (take c.from.result c.lengths-lens.result)
    (ap (λ (n : ℕ). take n c.lengths-lens.result) c.from.ensures ∙ c.lengths-lens.ensures.lengths)
    c.cut_back.ensures.lists c.cut_back.ensures.max adds.most_texts adds.longer in
    subst (λ (d : TextLists). OnlyAdds c.args.dict.now d c.args.table.now c.insert_table_rows.new.table) (sym dict)
    (record {
      longer = longer-same c.args.dict.now.lists;
      most_texts = refl;
      dictionary = c.requires.can.dictionary;
      front = adds.front;
      frame = adds.frame;
    })

pub lengths-lens-requires-clause-dims : goal.lengths-lens-requires-clause-dims
lengths-lens-requires-clause-dims c =
    c.dims-dims.ensures.count ∙ sym c.requires.dims ∙ sym c.requires.can.lists

pub insert_table_rows-requires : goal.insert_table_rows-requires
insert_table_rows-requires c = record {
  can = subst (λ (t : Places). CanInsert c.args.dict.now t c.args.batch.now) (sym c.reserve.ensures) c.requires.can;
  once = c.requires.once;
  new = subst (λ (t : Places). first_number (is_there (rows_of t)) c.args.batch.now.changes ≡ None)
      (sym c.reserve.ensures) c.requires.new;
  room = subst (λ (t : Places). length (rows_of t) + length (inserted c.args.batch.now.changes) ≤ t.max)
      (sym c.reserve.ensures) c.requires.room;
  cell_dims = search rules;
}

pub returns-in-Ok-clause-inserted : goal.returns-in-Ok-clause-inserted
returns-in-Ok-clause-inserted c =
    subst (λ (t : Places). AreInserted (texts_after c.args.dict.now.lists c.args.batch.now.changes)
    (inserted c.args.batch.now.changes) c.args.dict.now c.insert_table_rows.new.dict t c.insert_table_rows.new.table)
    c.reserve.ensures c.in-Ok.ensures.inserted

pub returns-in-Ok-clause-adds : goal.returns-in-Ok-clause-adds
returns-in-Ok-clause-adds c =
    subst (λ (t : Places). OnlyAdds c.args.dict.now c.insert_table_rows.new.dict t c.insert_table_rows.new.table)
    c.reserve.ensures c.insert_table_rows.ensures.adds

pub returns-in-Err-Memory-clause-adds : goal.returns-in-Err-Memory-clause-adds
returns-in-Err-Memory-clause-adds c =
    subst (λ (t : Places). OnlyAdds c.args.dict.now c.insert_table_rows.new.dict t c.insert_table_rows.new.table)
    c.reserve.ensures c.insert_table_rows.ensures.adds

pub cut_back-requires : goal.cut_back-requires
cut_back-requires c =
    let lens : take c.from.result c.lengths-lens.result ≡ map (λ (texts : List Text). length texts) c.args.dict.now.lists
    = ap (λ (n : ℕ). take n c.lengths-lens.result) c.from.ensures ∙ c.lengths-lens.ensures.lengths in
    ap (λ (ns : List ℕ). length ns) lens
    ∙ length-map c.args.dict.now.lists (λ (texts : List Text). length texts)
    ∙ sym c.insert_table_rows.ensures.adds.longer.dims

pub values_full-requires : goal.values_full-requires
values_full-requires c =
    let adds = c.insert_table_rows.ensures.adds in
    record {
      lens =
          let lens : take c.from.result c.lengths-lens.result ≡ map (λ (texts : List Text). length texts) c.args.dict.now.lists
          = ap (λ (n : ℕ). take n c.lengths-lens.result) c.from.ensures ∙ c.lengths-lens.ensures.lengths in
          let back : c.cut_back.new.self ≡ c.args.dict.now =
          cut-back c.args.dict.now c.insert_table_rows.new.dict c.cut_back.new.self
          (take c.from.result c.lengths-lens.result) lens c.cut_back.ensures.lists c.cut_back.ensures.max adds.most_texts
          adds.longer in
          lens ∙ ap (λ (d : TextLists). map (λ (texts : List Text). length texts) d.lists) (sym back);
      can = record {
        lists = c.cut_back.ensures.dims ∙ c.insert_table_rows.ensures.adds.longer.dims ∙ c.requires.can.lists;
        dictionary = c.cut_back.ensures.dictionary;
        valid = c.requires.can.valid;
      };
      over =
          let back : c.cut_back.new.self ≡ c.args.dict.now =
          cut-back c.args.dict.now c.insert_table_rows.new.dict c.cut_back.new.self
          (take c.from.result c.lengths-lens.result)
          (ap (λ (n : ℕ). take n c.lengths-lens.result) c.from.ensures ∙ c.lengths-lens.ensures.lengths)
          c.cut_back.ensures.lists c.cut_back.ensures.max adds.most_texts adds.longer in
          subst (λ (d : TextLists). IsOver d.max (texts_after d.lists c.args.batch.now.changes)) (sym back)
          (c.in-Err-Full.ensures.full (ap Err c.in-Err-Full.field-0-is));
    }

pub returns-in-Err-Full-clause-full : goal.returns-in-Err-Full-clause-full
returns-in-Err-Full-clause-full c =
    let adds = c.insert_table_rows.ensures.adds in
    let back : c.cut_back.new.self ≡ c.args.dict.now =
    cut-back c.args.dict.now c.insert_table_rows.new.dict c.cut_back.new.self
    (take c.from.result c.lengths-lens.result)
    (ap (λ (n : ℕ). take n c.lengths-lens.result) c.from.ensures ∙ c.lengths-lens.ensures.lengths)
    c.cut_back.ensures.lists c.cut_back.ensures.max adds.most_texts adds.longer in
    subst (λ (d : TextLists). IfSome (refusal_in c.values_full.result)
    (λ refusal. option_map (λ dim. batches.ValuesFull dim) (full_dim d.max (texts_after d.lists c.args.batch.now.changes))
    ≡ Some refusal)) back c.values_full.ensures.refusal
