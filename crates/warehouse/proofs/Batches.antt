-- A batch that is taken back leaves all as it was, and one that is kept leaves parts that fit each other.
use Rattle.std.proofs.Common.{◌≡◌, ◌≤◌, ◌∙◌, ℕ, List, Ok, Some, ap, ap₂, length, map, refl, subst, sym}
use Rattle.std.specs.Ordering.{nat_cmp}
use Rattle.base_table.specs.Places.{Base, IsTable, Places, base_of, rows_of}
use Rattle.csv_load.specs.Batch.{Batch, Change, IsBatch}
use Rattle.cube_defs.specs.Rows.{Row}
use Rattle.cube_defs.specs.Text.{Text, text_cmp}
use Rattle.cube_defs.specs.Tree.{IsCanonical, Tree, classes, nodes}
use Rattle.measure_index.specs.Rankings.{Ranking}
use Rattle.qc_arena.specs.Codes.{Shape}
use Rattle.qc_arena.specs.Map as arena
use Rattle.qc_arena.specs.Map.{Arena, is_open, is_touched, shape_of}
use Rattle.qc_schema.specs.Schema.{Layout}
use Rattle.tree_laws.proofs.CallerLemmas.{some_same}
use Rattle.tree_laws.specs.Counts.{classes_in}
use Rattle.value_dict.specs.TextLists.{IsDictionary, TextLists}
use Rattle.value_dict.specs.Decoded.{RowsAreCodes, decoded_row}
use Rattle.warehouse.specs.Batch.{after, result_of, rows_after, texts_after}
use Rattle.warehouse.specs.Changing.{AreAsBefore, AreMade, AreParts, IsCommitted, IsInPlace, IsRolledBack, LeavesFrames, OnlyAdds, begun}
use Rattle.warehouse.specs.Changing.{state_in}
use Rattle.warehouse.specs.InPlace.{has_image}
use Rattle.warehouse.specs.State.{IsIndexed, State}
use Rattle.warehouse.specs.Steps.{closed, frame}
use Rattle.warehouse.specs.Stored.{IsStored, IsTreeOfTable, decoded_rows}
use Rattle.warehouse.specs.declared.cube.Cube.{Cube}
use Rattle.warehouse.proofs.Counted.{classes-kept}
use Rattle.warehouse.proofs.Growing.{cut-back}
use Rattle.warehouse.proofs.States.{stored-next}
use Rattle.warehouse.proofs.Texts.{longer-same}
use Rattle.warehouse.proofs.Touching.{images-touched}
use Rattle.warehouse.proofs.Trees.{kept-back, kept-canonical, tree-from}
use Rattle.warehouse.proofs.Values.{values-after}

module _ (schema : Layout) (cube cube0 cube1 : Cube) (is : IsStored schema cube.dict cube.table)
    (kept : IsTreeOfTable schema cube.table cube.tree) (opened : cube0 ≡ begun cube)
    (changed : LeavesFrames cube0 cube1) where
  left : LeavesFrames (begun cube) cube1
  left = subst (λ (c : Cube). LeavesFrames c cube1) opened changed

  pub taken-back : (cube2 : Cube) (lens : List ℕ) → lens ≡ map (λ (texts : List Text). length texts) cube.dict.lists
      → IsRolledBack lens cube1 cube2 → AreAsBefore schema cube cube2
  taken-back cube2 lens are back =
      let base : base_of cube2.table ≡ base_of cube.table
      = some_same (back.rows ∙ ap (λ (t : Places). t.was) left.of_table) in
      let dims = cube2.table.dims in
      let rest : frame cube2.table ≡ frame (closed cube.table) =
      back.frame ∙ ap (λ (t : Places). record (closed t) { dims = dims }) left.of_table
      ∙ ap (λ (b : Base). record (frame (closed cube.table)) { dims = b.dims }) base in
      let texts : cube2.dict ≡ cube.dict
      = cut-back cube.dict cube1.dict cube2.dict lens are back.texts back.most_texts left.most_texts left.longer in
      let shape : Some (shape_of cube2.tree) ≡ Some (shape_of cube.tree)
      = back.shape ∙ ap (λ (a : Arena). a.was) left.of_tree in
      let max : cube2.tree.max ≡ cube.tree.max = back.max ∙ ap (λ (a : Arena). a.max) left.of_tree in
      let rows : rows_of cube2.table ≡ rows_of cube.table = ap (λ (b : Base). b.rows) base in
      record {
        stored =
            subst (λ (d : TextLists). IsStored schema d cube2.table) (sym texts)
            (stored-next schema cube.dict cube.dict cube.table cube2.table is rest back.valid refl refl is.values
            (subst (λ (rs : List (Row ℕ)). RowsAreCodes cube.dict.lists rs) (sym rows) is.known) is.dictionary);
        kept = kept-back schema cube.table cube2.table cube.tree cube2.tree kept (ap (λ (b : Base). Some b.rows) base)
            shape back.closed max;
        same_state = ap₂ (λ (d : TextLists) (rs : List (Row ℕ)). let s : State
            = record { schema = schema; rows = map (decoded_row d.lists) rs; texts = d.lists } in s) texts rows;
        same_tree = ap (λ (s : Shape). s.tree) (some_same shape);
        images = back.images ∙ ap (λ (a : Arena). a.last) left.of_tree;
      }

  module _ (batch : Batch) (valid : IsBatch batch) (changes : AreMade schema batch.changes cube0 cube1) where
    made : AreMade schema batch.changes (begun cube) cube1
    made = subst (λ (c : Cube). AreMade schema batch.changes c cube1) opened changes

    -- the answer of changes that are taken back, with the number of the classes that they made
    pub made-gives : (records count : ℕ) → IsTable cube1.table → records ≡ length batch.changes
        → count ≡ classes_in nat_cmp cube1.tree.now
        → result_of (state_in schema cube) (Ok batch.changes)
        ≡ Ok (record { records = records; classes = count; state = after (state_in schema cube) batch.changes })
    made-gives records count is_table many counts =
        let dims : cube1.table.dims ≡ length schema.dims = ap (λ (t : Places). t.dims) left.of_table ∙ is.dims in
        let measures : cube1.table.measures ≡ length schema.measures = ap (λ (t : Places). t.measures) left.of_table
        ∙ is.measures in
        let from = tree-from schema cube1.table cube1.tree.now is_table dims measures made.canonical in
        let classes_then : count
        ≡ length (classes text_cmp (rows_after (decoded_rows cube.dict.lists cube.table) batch.changes)) =
        counts ∙ classes-kept cube1.dict.lists (rows_of cube1.table) made.known left.dictionary.distinct _ _
        cube1.tree.now from ∙ ap (λ (s : State). length (classes text_cmp s.rows)) made.made in
        rw (made.none, sym classes_then, many) refl

    module _ (cube2 : Cube) (committed : IsCommitted cube1 cube2) where
      pub kept-parts : (index : List Ranking) → IsIndexed schema cube1.tree.now index → AreParts schema cube2 index
      kept-parts index indexed =
          let texts : cube1.dict.lists ≡ texts_after cube.dict.lists batch.changes
          = ap (λ (s : State). s.texts) made.made in
          let rest : frame cube2.table ≡ frame (closed cube.table) = committed.frame ∙ ap closed left.of_table in
          let rows = committed.rows in
          let now : cube2.tree.now ≡ cube1.tree.now = ap (λ (a : Arena). a.now) committed.of_tree in
          let stored : IsStored schema cube1.dict cube2.table =
          stored-next schema cube.dict cube1.dict cube.table cube2.table is rest committed.valid left.most_texts
          left.longer.dims (rw texts (values-after batch cube.dict.lists valid is.values))
          (subst (λ (rs : List (Row ℕ)). RowsAreCodes cube1.dict.lists rs) (sym rows) made.known) left.dictionary in
          record {
            stored = subst (λ (d : TextLists). IsStored schema d cube2.table) (sym committed.texts) stored;
            kept =
                kept-canonical schema cube2.table cube2.tree committed.valid stored.dims stored.measures
                (ap is_open committed.of_tree)
                (ap (λ (a : Arena). a.width) committed.of_tree ∙ ap (λ (a : Arena). a.width) left.of_tree ∙ kept.width)
                (ap (λ (a : Arena). a.max) committed.of_tree ∙ ap (λ (a : Arena). a.max) left.of_tree ∙ kept.max)
                (subst (λ (rs : List (Row ℕ)). length (nodes nat_cmp rs) ≤ schema.nodes) (sym rows) made.fits)
                (subst (λ (t : Tree ℕ). IsCanonical nat_cmp cube2.table.measures (rows_of cube2.table) t) (sym now)
                (subst (λ (rs : List (Row ℕ)). IsCanonical nat_cmp cube2.table.measures rs cube1.tree.now) (sym rows)
                (subst (λ (m : ℕ). IsCanonical nat_cmp m (rows_of cube1.table) cube1.tree.now)
                (sym (ap (λ (t : Places). t.measures) committed.frame)) made.canonical)));
            indexed = subst (λ (t : Tree ℕ). IsIndexed schema t index) (sym now) indexed;
          }

      -- the answer of changes that are kept
      pub kept-gives : (index : List Ranking) (records count : ℕ) → AreParts schema cube2 index
          → records ≡ length batch.changes → count ≡ classes_in nat_cmp cube2.tree.now
          → result_of (state_in schema cube) (Ok batch.changes)
          ≡ Ok (record { records = records; classes = count; state = state_in schema cube2 })
      kept-gives index records count parts many counts =
          let with : TextLists → List (Row ℕ) → State
          = λ dict rows. record { schema = schema; rows = map (decoded_row dict.lists) rows; texts = dict.lists } in
          let now : state_in schema cube2 ≡ after (state_in schema cube) batch.changes
          = ap₂ with committed.texts committed.rows ∙ made.made in
          let classes_then : length
          (classes text_cmp (rows_after (decoded_rows cube.dict.lists cube.table) batch.changes)) ≡ count =
          ap (λ (s : State). length (classes text_cmp s.rows)) (sym now)
          ∙ sym (counts ∙ classes-kept cube2.dict.lists (rows_of cube2.table) parts.stored.known
          parts.stored.dictionary.distinct _ _ cube2.tree.now parts.kept.from) in
          rw (made.none, classes_then, sym now, many) refl

  -- what is left of the tree in place is left of that before the batch, if it is kept
  pub kept-in-place : (changes : List (Change Text)) (cube2 : Cube) (from to : ℕ) → IsCommitted cube1 cube2
      → IsInPlace (state_in schema cube0) changes cube1.dict.lists cube0.tree.now cube1.tree.now
      (is_touched cube1.tree) from to
      → IsInPlace (state_in schema cube) changes cube2.dict.lists cube.tree.now cube2.tree.now
      (has_image cube2.tree.last) from to
  kept-in-place changes cube2 from to committed in_place =
      let touched = has_image cube2.tree.last in
      let imaged : IsInPlace (state_in schema cube0) changes cube1.dict.lists cube0.tree.now cube1.tree.now touched
      from to =
      record {
        numbers = in_place.numbers;
        apart = in_place.apart;
        touches = λ k before now.
            images-touched cube1.tree cube2.tree.last committed.last k (in_place.touches k before now);
        steps = in_place.steps;
      } in
      subst (λ (d : TextLists). IsInPlace (state_in schema cube) changes d.lists cube.tree.now cube2.tree.now touched
      from to) (sym committed.texts)
      (subst (λ (t : Tree ℕ). IsInPlace (state_in schema cube) changes cube1.dict.lists cube.tree.now t touched from to)
      (sym (ap (λ (a : Arena). a.now) committed.of_tree))
      (subst (λ (c : Cube). IsInPlace (state_in schema c) changes cube1.dict.lists c.tree.now cube1.tree.now touched
      from to) opened imaged))

-- what a batch is taken back by: texts are as they were, or were only added, or only the tree is written
pub same-frames : (cube cube' : Cube) → cube'.dict ≡ cube.dict → IsDictionary cube.dict
    → frame cube'.table ≡ frame cube.table → arena.frame cube'.tree ≡ arena.frame cube.tree → LeavesFrames cube cube'
same-frames cube cube' same is table tree = record {
  longer = rw same (longer-same cube.dict.lists);
  most_texts = ap (λ (d : TextLists). d.max) same;
  dictionary = rw same is;
  of_table = table;
  of_tree = tree;
}

pub added-frames : (cube cube' : Cube) (mid : Places) → OnlyAdds cube.dict cube'.dict mid cube'.table
    → frame mid ≡ frame cube.table → arena.frame cube'.tree ≡ arena.frame cube.tree → LeavesFrames cube cube'
added-frames cube cube' mid adds table tree = record {
  longer = adds.longer;
  most_texts = adds.most_texts;
  dictionary = adds.dictionary;
  of_table = adds.frame ∙ table;
  of_tree = tree;
}

pub tree-frames : (cube mid cube' : Cube) → LeavesFrames cube mid → cube'.dict ≡ mid.dict → cube'.table ≡ mid.table
    → arena.frame cube'.tree ≡ arena.frame mid.tree → LeavesFrames cube cube'
tree-frames cube mid cube' frames dict table tree = record {
  longer = rw dict frames.longer;
  most_texts = rw dict frames.most_texts;
  dictionary = rw dict frames.dictionary;
  of_table = rw table frames.of_table;
  of_tree = tree ∙ frames.of_tree;
}
