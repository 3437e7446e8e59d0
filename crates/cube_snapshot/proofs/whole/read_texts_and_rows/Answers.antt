use Rattle.std.proofs.Common.{◌∙◌, ℕ, All, List, Some, ap, ap₂, length, subst, sym}
use Rattle.base_table.specs.Places.{Places, rows_of}
use Rattle.cube_defs.specs.Rows.{Row}
use Rattle.cube_snapshot.specs.Format.{repeated, whole}
use Rattle.cube_snapshot.specs.Parts.{rows, texts}
use Rattle.cube_snapshot.specs.Readers.{AreAllowed, MayFollowSchema, MayBeRows, Refuses}
use Rattle.cube_snapshot.specs.Snapshot.{texts_and_rows}
use Rattle.cube_snapshot.proofs.Stages.{after_done, after_not_done, refuse_lists, refuse_none, refuse_rows}
use Rattle.cube_snapshot.proofs.whole.read_texts_and_rows.Goals as goal

pub returns-in-Err-clause-reads : goal.returns-in-Err-clause-reads
returns-in-Err-clause-reads c =
    let l = c.args.schema.now in
    let d = c.args.dict.now in
    let bytes = c.args.bytes.now in
    let e = c.in-Err.refused in
    let are = c.requires.are in
    refuse_lists l bytes e
    (subst (λ (n : ℕ). Refuses (λ y. All (AreAllowed l.values) y.0) e ((repeated texts n).get bytes)) are.lists
    (subst (λ (n : ℕ). Refuses (λ y. All (AreAllowed n) y.0) e ((repeated texts (length d.lists)).get bytes)) are.values
    c.in-Err.ensures.reads))

pub read_rows-requires : goal.read_rows-requires
read_rows-requires c = record {
  takes = record {
    opened = c.requires.opened;
    dims = c.in-Ok.ensures.dims ∙ c.requires.are.lists ∙ sym c.requires.are.dims;
  };
  empty = c.requires.no_rows;
}

pub returns-in-Err-read_rows-clause-reads : goal.returns-in-Err-read_rows-clause-reads
returns-in-Err-read_rows-clause-reads c =
    let l = c.args.schema.now in
    let t = c.args.table.now in
    let lists = c.read_dict.new.dict.lists in
    let bytes = c.args.bytes.now in
    let rest = c.in-Ok.rest.now in
    let e = c.in-Err-read_rows.refused in
    let are = c.requires.are in
    refuse_rows l bytes lists rest e (ap (λ (n : ℕ). (repeated texts n).get bytes) (sym are.lists)
    ∙ c.in-Ok.ensures.reads.0)
    (subst (λ (n : ℕ). Refuses (λ y. MayBeRows lists l.rows y.0) e ((rows n (length l.measures)).get rest)) are.dims
    (subst (λ (n : ℕ). Refuses (λ y. MayBeRows lists l.rows y.0) e ((rows t.dims n).get rest)) are.measures
    (subst (λ (n : ℕ). Refuses (λ y. MayBeRows lists n y.0) e ((rows t.dims t.measures).get rest)) are.rows
    c.in-Err-read_rows.ensures.reads)))

pub returns-then-not-is_empty-clause-reads : goal.returns-then-not-is_empty-clause-reads
returns-then-not-is_empty-clause-reads c =
    let l = c.args.schema.now in
    let t' = c.read_rows.new.table in
    let lists = c.read_dict.new.dict.lists in
    let bytes = c.args.bytes.now in
    let rest = c.in-Ok.rest.now in
    let are = c.requires.are in
    refuse_none (MayFollowSchema l) (whole (texts_and_rows l) bytes)
    (after_not_done l bytes lists rest (rows_of t') c.in-Ok-read_rows.rest.now
    (ap (λ (n : ℕ). (repeated texts n).get bytes) (sym are.lists) ∙ c.in-Ok.ensures.reads.0)
    (ap₂ (λ (m n : ℕ). (rows m n).get rest) (sym are.dims) (sym are.measures) ∙ c.in-Ok-read_rows.ensures.reads.0)
    (sym c.is_empty.ensures ∙ c.if-not-is_empty.true))

pub returns-clause-reads : goal.returns-clause-reads
returns-clause-reads c =
    let l = c.args.schema.now in
    let t' = c.read_rows.new.table in
    let lists = c.read_dict.new.dict.lists in
    let bytes = c.args.bytes.now in
    let rest = c.in-Ok.rest.now in
    let are = c.requires.are in
    let same = sym c.commit.ensures.rows in (
      after_done l bytes lists rest (rows_of t') c.in-Ok-read_rows.rest.now
          (ap (λ (n : ℕ). (repeated texts n).get bytes) (sym are.lists) ∙ c.in-Ok.ensures.reads.0)
          (ap₂ (λ (m n : ℕ). (rows m n).get rest) (sym are.dims) (sym are.measures) ∙ c.in-Ok-read_rows.ensures.reads.0)
          (sym c.is_empty.ensures ∙ c.if-not-is_empty.false)
          ∙ ap (λ (list : List (Row ℕ)). Some (lists, list)) same,
      (
        subst (λ (n : ℕ). All (AreAllowed n) lists) are.values c.in-Ok.ensures.reads.1,
        subst (λ (list : List (Row ℕ)). MayBeRows lists l.rows list) same
            (subst (λ (n : ℕ). MayBeRows lists n (rows_of t')) are.rows c.in-Ok-read_rows.ensures.reads.1),
      ),
    )

pub returns-clause-made : goal.returns-clause-made
returns-clause-made c =
    let are = c.requires.are in
    let kept = c.in-Ok-read_rows.ensures.kept in
    record {
      are = record {
        layout = are.layout;
        lists = c.in-Ok.ensures.dims ∙ are.lists;
        values = c.in-Ok.ensures.max ∙ are.values;
        dims = c.commit.ensures.dims ∙ ap (λ (t : Places). t.dims) kept ∙ are.dims;
        measures = c.commit.ensures.measures ∙ ap (λ (t : Places). t.measures) kept ∙ are.measures;
        rows = c.commit.ensures.max ∙ ap (λ (t : Places). t.max) kept ∙ are.rows;
      };
      dictionary = c.dims-dims.ensures.dictionary;
      table_is = c.recall_invariant.ensures;
      closed = c.commit.ensures.was;
    }
