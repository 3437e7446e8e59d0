use Rattle.std.proofs.Common.{◌≡◌, ◌≤◌, ◌∙◌, ℕ, List, Option, None, Some, ap, ap₂, is_some, length, nat_lt, refl, subst, sym}
use Rattle.std.specs.Ordering.{nat_cmp}
use Rattle.std.specs.Prelude.{IfSome, not, option_map}
use Rattle.std.proofs.lemmas.List.Elements.{All-filter}
use Rattle.base_table.specs.Places.{Places, rows_of}
use Rattle.csv_load.specs.Batch.{deleted}
use Rattle.cube_defs.specs.Rows.{Row}
use Rattle.cube_defs.specs.Text.{Text}
use Rattle.cube_defs.specs.Tree.{IsCanonical, nodes}
use Rattle.qc_arena.specs.Map.{Arena}
use Rattle.warehouse.specs.Batch as batches
use Rattle.warehouse.specs.Batch.{full_dim, is_among, or_else, rows_after, texts_after}
use Rattle.warehouse.specs.Changing.{state_in}
use Rattle.warehouse.specs.InPlace.{KeepsNodes, kept}
use Rattle.warehouse.specs.State.{State}
use Rattle.warehouse.specs.Steps.{last_refusal, rows_before}
use Rattle.warehouse.specs.Stored.{decoded_rows, refusal_in, state_of}
use Rattle.value_dict.specs.Decoded.{AreCodes}
use Rattle.warehouse.proofs.Batches.{added-frames, same-frames}
use Rattle.warehouse.proofs.Causes.{cause-present, cause-rows, caused, count-decoded, missing-caused, missing-decoded, passed}
use Rattle.warehouse.proofs.Causes.{present-decoded, rows-decoded}
use Rattle.warehouse.proofs.Inserting.{place-within, rows-prefix}
use Rattle.warehouse.proofs.Texts.{full-none}
use Rattle.warehouse.proofs.changing.change_rows.Goals as goal

pub returns-in-Err-clause-frames : goal.returns-in-Err-clause-frames
returns-in-Err-clause-frames g c =
    same-frames _ _ refl c.requires.begun.stored.dictionary c.delete_rows.ensures.frame c.delete_rows.ensures.tree_frame

pub returns-in-Some-clause-frames : goal.returns-in-Some-clause-frames
returns-in-Some-clause-frames g c =
    same-frames _ _ refl c.requires.begun.stored.dictionary c.delete_rows.ensures.frame c.delete_rows.ensures.tree_frame

pub returns-then-is_full-clause-frames : goal.returns-then-is_full-clause-frames
returns-then-is_full-clause-frames g c =
    same-frames _ _ refl c.requires.begun.stored.dictionary c.delete_rows.ensures.frame c.delete_rows.ensures.tree_frame

pub returns-in-Err-add_rows-clause-frames : goal.returns-in-Err-add_rows-clause-frames
returns-in-Err-add_rows-clause-frames g c =
    added-frames _ _ _ c.add_rows.ensures.adds c.delete_rows.ensures.frame c.delete_rows.ensures.tree_frame

pub returns-clause-frames : goal.returns-clause-frames
returns-clause-frames g c =
    added-frames _ _ _ c.add_rows.ensures.adds c.delete_rows.ensures.frame c.delete_rows.ensures.tree_frame

pub returns-in-Err-clause-cause : goal.returns-in-Err-clause-cause
returns-in-Err-clause-cause g c =
    let s = state_in c.args.schema.now c.args.cube.now in
    let changes = c.args.batch.now.changes in
    missing-caused s changes (refusal_in c.in-Err.refused) c.requires.fit.once
    (subst (λ (o : Option ℕ). IfSome (refusal_in c.in-Err.refused)
    (λ refusal. option_map (λ (k : ℕ). batches.Missing k) o ≡ Some refusal))
    (sym (missing-decoded c.args.cube.now.dict.lists (rows_of c.args.cube.now.table) changes)) c.in-Err.ensures.missing)

pub returns-in-Some-clause-cause : goal.returns-in-Some-clause-cause
returns-in-Some-clause-cause g c =
    let s = state_in c.args.schema.now c.args.cube.now in
    let lists = c.args.cube.now.dict.lists in
    let rows = rows_of c.args.cube.now.table in
    let left = rows_of c.delete_rows.new.table in
    let changes = c.args.batch.now.changes in
    cause-present s changes c.in-Some.k c.requires.fit.once
    (missing-decoded lists rows changes ∙ c.in-Ok.ensures.none)
    (present-decoded lists rows left changes c.in-Ok.ensures.deleted.rows ∙ sym c.first_present.ensures ∙ c.in-Some.is)

pub returns-then-is_full-clause-cause : goal.returns-then-is_full-clause-cause
returns-then-is_full-clause-cause g c =
    let s = state_in c.args.schema.now c.args.cube.now in
    let lists = c.args.cube.now.dict.lists in
    let rows = rows_of c.args.cube.now.table in
    let left = rows_of c.delete_rows.new.table in
    let changes = c.args.batch.now.changes in
    cause-rows s changes c.requires.fit.once
    (missing-decoded lists rows changes ∙ c.in-Ok.ensures.none)
    (present-decoded lists rows left changes c.in-Ok.ensures.deleted.rows ∙ sym c.first_present.ensures
    ∙ c.in_default.is)
    (ap₂ nat_lt (sym c.rows.ensures) (count-decoded lists rows left changes c.in-Ok.ensures.deleted.rows)
    ∙ sym c.is_full.ensures ∙ c.if-is_full.true)

pub add_rows-requires-clause-can : goal.add_rows-requires-clause-can
add_rows-requires-clause-can g c =
    let stored = c.requires.begun.stored in
    let same = c.delete_rows.ensures.frame in
    record {
      lists = stored.lists ∙ sym c.requires.fit.dims;
      dims = ap (λ (t : Places). t.dims) same ∙ stored.dims ∙ sym c.requires.fit.dims;
      measures = ap (λ (t : Places). t.measures) same ∙ stored.measures ∙ sym c.requires.fit.measures;
      is_open = ap (λ (t : Places). is_some t.was) same ∙ c.requires.begun.rows_open;
      dictionary = stored.dictionary;
      known =
          rw c.in-Ok.ensures.deleted.rows
          (All-filter (λ (row : Row ℕ). not (is_among row.id (deleted c.args.batch.now.changes)))
          (λ (row : Row ℕ). AreCodes c.args.cube.now.dict.lists row.tuple)
          (rows_of c.args.cube.now.table) stored.known);
      valid = c.requires.fit.valid;
    }

pub returns-in-Err-add_rows-clause-cause : goal.returns-in-Err-add_rows-clause-cause
returns-in-Err-add_rows-clause-cause g c =
    let s = state_in c.args.schema.now c.args.cube.now in
    let changes = c.args.batch.now.changes in
    let full : full_dim c.args.cube.now.dict.max (texts_after c.args.cube.now.dict.lists changes)
    ≡ full_dim c.args.schema.now.values (texts_after c.args.cube.now.dict.lists changes) =
    ap (λ (max : ℕ). full_dim max (texts_after c.args.cube.now.dict.lists changes))
    c.requires.begun.stored.most_texts in
    caused s changes (refusal_in c.in-Err-add_rows.refused) _
    (passed c.args.schema.now c.args.cube.now.dict c.args.cube.now.table c.delete_rows.new.table changes
    c.first_present.result c.rows.result c.is_full.result
    c.requires.fit.once c.in-Ok.ensures.none c.in-Ok.ensures.deleted.rows c.first_present.ensures c.in_default.is
    c.rows.ensures c.is_full.ensures c.if-is_full.false)
    (rw full at c.in-Err-add_rows.ensures.full)

pub returns-clause-made : goal.returns-clause-made
returns-clause-made g c =
    let schema = c.args.schema.now in
    let dict = c.args.cube.now.dict in
    let lists = dict.lists in
    let table = c.args.cube.now.table in
    let rows = rows_of table in
    let less = c.delete_rows.new.table in
    let changes = c.args.batch.now.changes in
    let now = c.add_rows.new.dict in
    let then_table = c.add_rows.new.table in
    let came = c.in-Ok-add_rows.ensures.inserted in
    let adds = c.add_rows.ensures.adds in
    let deletes = c.in-Ok.ensures.deleted in
    let within : full_dim schema.values (texts_after lists changes) ≡ None =
    ap₂ full_dim (sym (adds.most_texts ∙ c.requires.begun.stored.most_texts)) (sym came.lists)
    ∙ full-none now.max now.lists adds.dictionary.within in
    let made : decoded_rows now.lists then_table ≡ rows_after (decoded_rows lists table) changes
    = came.rows ∙ sym (rows-decoded lists rows (rows_of less) changes deletes.rows) in
    let before : rows_before then_table c.places-first.result ≡ rows_of less
    = rows-prefix less then_table c.places-first.result c.places-first.ensures.value adds.front in
    let left : rows_before then_table c.places-first.result ≡ kept (deleted changes) rows = before ∙ deletes.rows in
    let same : then_table.measures ≡ table.measures
    = ap (λ (t : Places). t.measures) (adds.frame ∙ c.delete_rows.ensures.frame) in
    record {
      last = passed schema dict table less changes c.first_present.result c.rows.result c.is_full.result
          c.requires.fit.once c.in-Ok.ensures.none deletes.rows c.first_present.ensures c.in_default.is c.rows.ensures
          c.is_full.ensures c.if-is_full.false
          ∙ ap (λ (o : Option ℕ). or_else (option_map (λ (dim : ℕ). batches.ValuesFull dim) o)
          (last_refusal (state_of schema dict table) changes)) within;
      made = ap₂ (λ (rs : List (Row Text)) (ts : List (List Text)). let s : State
          = record { schema = schema; rows = rs; texts = ts } in s) made came.lists;
      known = came.known;
      left = left;
      before = record {
        within = place-within less then_table c.places-first.result c.places-first.ensures.value adds.front;
        canonical =
            subst (λ (m : ℕ). IsCanonical nat_cmp m (rows_before then_table c.places-first.result)
            c.delete_rows.new.tree.now) (sym same)
            (subst (λ (rs : List (Row ℕ)). IsCanonical nat_cmp table.measures rs c.delete_rows.new.tree.now)
            (sym before) deletes.canonical);
        fits =
            subst (λ (n : ℕ). length (nodes nat_cmp (rows_before then_table c.places-first.result)) ≤ n)
            (sym (ap (λ (a : Arena). a.max) c.delete_rows.ensures.tree_frame))
            (subst (λ (rs : List (Row ℕ)). length (nodes nat_cmp rs) ≤ c.args.cube.now.tree.max)
            (sym before) deletes.fits);
      };
      numbers = subst (λ (rs : List (Row ℕ)). KeepsNodes rs c.args.cube.now.tree.now c.delete_rows.new.tree.now)
          deletes.rows deletes.numbers;
      apart = deletes.apart;
      touches = deletes.touches;
      steps = deletes.steps;
    }
