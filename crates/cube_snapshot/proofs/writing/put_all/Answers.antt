use Rattle.std.proofs.Common.{◌∙◌, ◌++◌, List, ℕ, ap, append_assoc}
use Rattle.std.specs.Int.{w32}
use Rattle.std.specs.Prelude.{length}
use Rattle.base_table.specs.Places.{rows_of}
use Rattle.cube_snapshot.specs.Format.{number, repeated}
use Rattle.cube_snapshot.specs.Parts.{rows, texts}
use Rattle.cube_snapshot.specs.Snapshot.{mark_text}
use Rattle.cube_snapshot.proofs.writing.put_all.Goals as goal

pub returns : goal.returns
returns c =
    let schema = c.args.contents.now.schema.now.items in
    let t = c.args.contents.now.table.now in
    let front = (number w32).put (length schema) ++ schema in
    let lists = (repeated texts t.dims).put c.args.contents.now.dict.now.lists in
    let list = (rows t.dims t.measures).put (rows_of t) in
    c.in_ok-put_rows.ensures
    ∙ ap (λ (l : List ℕ). l ++ list) (c.in_ok-put_dict.ensures
    ∙ ap (λ (l : List ℕ). l ++ lists) (c.in_ok-put_schema.ensures
    ∙ ap (λ (l : List ℕ). (l ++ mark_text) ++ front) c.in_ok-out.ensures.items))
    ∙ append_assoc (mark_text ++ front) lists list ∙ append_assoc mark_text front (lists ++ list)
