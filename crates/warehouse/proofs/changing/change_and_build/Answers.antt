use Rattle.std.proofs.Common.{Err, List, ◌≡◌, ◌+◌, ◌++◌, ◌<◌, ◌≤◌, ◌∙◌, ℕ, ap, length, subst, [], arith, rules, refl}
use Rattle.std.specs.Ordering.{nat_cmp}
use Rattle.base_table.specs.Places.{Places, rows_of}
use Rattle.csv_load.specs.Batch.{deleted, inserted}
use Rattle.class_builder.specs.Costs.{cost_of_building}
use Rattle.cube_defs.specs.Text.{Text}
use Rattle.cube_defs.specs.Tree.{nodes}
use Rattle.qc_arena.specs.Map.{Arena}
use Rattle.warehouse.specs.Batch.{rows_after}
use Rattle.warehouse.specs.Changing.{state_in}
use Rattle.warehouse.specs.InPlace.{cost_of_insertions, cost_of_batch, cost_of_deletions, gone, with_codes, kept}
use Rattle.warehouse.specs.State.{State}
use Rattle.warehouse.specs.Steps.{rows_before, rows_from_place}
use Rattle.warehouse.specs.Stored.{decoded_rows}
use Rattle.warehouse.proofs.Batches.{tree-frames}
use Rattle.warehouse.proofs.Causes.{last-full, last-none}
use Rattle.warehouse.proofs.Counted.{nodes-decoded}
use Rattle.warehouse.proofs.Touching.{touched-both}
use Rattle.warehouse.proofs.TreeInsertions.{batch-apart, batch-numbers, batch-steps, changed-rows}
use Rattle.warehouse.proofs.Loads.{rows-none, tree-none}
use Rattle.warehouse.proofs.changing.change_and_build.Goals as goal

pub returns-in-Ok-make_tree : goal.returns-in-Ok-make_tree
returns-in-Ok-make_tree g c = record {
  made =
      let s = state_in c.args.schema.now c.args.cube.now in
      let dict = c.change_rows.new.cube.dict in
      let table = c.change_rows.new.cube.table in
      let is = c.in-Ok.ensures.made in
      let max : c.change_rows.new.cube.tree.max ≡ c.args.schema.now.nodes
      = ap (λ (a : Arena). a.max) c.change_rows.ensures.frames.of_tree ∙ c.requires.begun.most_nodes in
      let fits : length (nodes nat_cmp (rows_of table)) ≤ c.args.schema.now.nodes
      = subst (λ (max : ℕ). length (nodes nat_cmp (rows_of table)) ≤ max) max c.in-Ok-make_tree.ensures.fits in
      record {
        none = is.last
            ∙ last-none s c.args.batch.changes (decoded_rows dict.lists table) (length (nodes nat_cmp (rows_of table)))
            (ap (λ (t : State). t.rows) is.made)
            (nodes-decoded dict.lists (rows_of table) is.known c.change_rows.ensures.frames.dictionary.distinct) fits;
        made = is.made;
        canonical = c.in-Ok-make_tree.ensures.tree;
        fits = fits;
        known = is.known;
      };
  in_place = λ in_place.
      let is = c.in-Ok.ensures.made in
      let frames = c.change_rows.ensures.frames in
      let t = c.args.cube.now.table in
      let t' = c.change_rows.new.cube.table in
      let lists = c.args.cube.now.dict.lists in
      let now = c.change_rows.new.cube.dict.lists in
      let begun = c.args.steps.now in
      let here = c.change_rows.new.steps in
      let end = c.make_tree.new.steps in
      let known = c.requires.begun.stored.known in
      let rows : decoded_rows now t' ≡ rows_after (decoded_rows lists t) c.args.batch.changes
      = ap (λ (s : State). s.rows) is.made in
      let dims : t.dims ≡ length c.args.schema.now.dims = c.requires.begun.stored.dims in
      let dims' : t'.dims ≡ length c.args.schema.now.dims = ap (λ (t : Places). t.dims) frames.of_table ∙ dims in
      let going : here ≤ begun + cost_of_deletions (length c.args.schema.now.dims) (rows_of t)
      (deleted c.args.batch.changes) =
      subst (λ (n : ℕ). here ≤ begun + cost_of_deletions n (rows_of t) (deleted c.args.batch.changes)) dims is.steps in
      let coming : end ≤ here + cost_of_insertions (length c.args.schema.now.dims) (rows_before t' c.in-Ok.first)
      (rows_from_place t' c.in-Ok.first) =
      subst (λ (n : ℕ). end ≤ here + cost_of_insertions n (rows_before t' c.in-Ok.first)
      (rows_from_place t' c.in-Ok.first)) dims' (c.in-Ok-make_tree.ensures.steps in_place) in
      record {
        numbers = batch-numbers (rows_of t) t' c.in-Ok.first lists now c.args.batch.changes frames.longer known is.known
            frames.dictionary.distinct is.left rows
            c.args.cube.now.tree.now c.change_rows.new.cube.tree.now c.make_tree.new.tree.now is.numbers
            (c.make_tree.ensures.numbers in_place);
        apart = batch-apart (rows_of t) t' c.in-Ok.first lists now c.args.batch.changes frames.longer known is.known
            frames.dictionary.distinct is.left rows
            c.args.cube.now.tree.now c.change_rows.new.cube.tree.now c.make_tree.new.tree.now is.apart
            (c.make_tree.ensures.apart in_place);
        touches =
            touched-both (gone (deleted c.args.batch.changes) (rows_of t)) (rows_from_place t' c.in-Ok.first)
            (with_codes now (gone (deleted c.args.batch.changes) (decoded_rows lists t) ++ inserted c.args.batch.changes))
            c.args.cube.now.tree c.change_rows.new.cube.tree c.make_tree.new.tree
            (changed-rows (rows_of t) t' c.in-Ok.first lists now c.args.batch.changes frames.longer known is.known
            frames.dictionary.distinct is.left rows)
            c.requires.begun.untouched is.touches (c.in-Ok-make_tree.ensures.touches in_place);
        steps = subst (λ (ls : List (List Text)). end ≤ begun + cost_of_batch (length c.args.schema.now.dims) ls
            (decoded_rows lists t) c.args.batch.changes) (ap (λ (s : State). s.texts) is.made)
            (batch-steps (rows_of t) t' c.in-Ok.first lists now c.args.batch.changes frames.longer known is.known
            frames.dictionary.distinct is.left rows
            (length c.args.schema.now.dims) begun here end going coming);
      };
  loaded = λ load.
      let is = c.in-Ok.ensures.made in
      let frames = c.change_rows.ensures.frames in
      let t = c.args.cube.now.table in
      let t' = c.change_rows.new.cube.table in
      let ids = deleted c.args.batch.changes in
      let none : rows_of t ≡ [] = rows-none c.args.cube.now.dict.lists (rows_of t) load.none in
      let left : rows_before t' c.in-Ok.first ≡ [] = is.left ∙ ap (kept ids) none in
      let empty = tree-none t'.measures (rows_before t' c.in-Ok.first) c.change_rows.new.cube.tree.now left
      is.before.canonical in
      let dims : t'.dims ≡ length c.args.schema.now.dims
      = ap (λ (t : Places). t.dims) frames.of_table ∙ c.requires.begun.stored.dims in
      let cost = ap (λ (n : ℕ). cost_of_building n c.make_tree.new.tree.now) dims in
      let deletions = ap (cost_of_deletions t.dims (rows_of t)) load.inserts in
      let built = c.in-Ok-make_tree.ensures.scratch load.scratch empty in
      omega (arith, is.steps, deletions, built, cost);
  frames = tree-frames _ c.change_rows.new.cube _ c.change_rows.ensures.frames refl refl c.make_tree.ensures.frame;
  cause = search rules;
}

pub returns-in-Err-Full-clause-frames : goal.returns-in-Err-Full-clause-frames
returns-in-Err-Full-clause-frames g c =
    tree-frames _ c.change_rows.new.cube _ c.change_rows.ensures.frames refl refl c.make_tree.ensures.frame

pub returns-in-Err-Memory-clause-frames : goal.returns-in-Err-Memory-clause-frames
returns-in-Err-Memory-clause-frames g c =
    tree-frames _ c.change_rows.new.cube _ c.change_rows.ensures.frames refl refl c.make_tree.ensures.frame

pub returns-in-Err-Full-clause-cause : goal.returns-in-Err-Full-clause-cause
returns-in-Err-Full-clause-cause g c =
    let s = state_in c.args.schema.now c.args.cube.now in
    let dict = c.change_rows.new.cube.dict in
    let table = c.change_rows.new.cube.table in
    let max : c.change_rows.new.cube.tree.max ≡ c.args.schema.now.nodes
    = ap (λ (a : Arena). a.max) c.change_rows.ensures.frames.of_tree ∙ c.requires.begun.most_nodes in
    c.in-Ok.ensures.made.last
    ∙ last-full s c.args.batch.changes (decoded_rows dict.lists table) (length (nodes nat_cmp (rows_of table)))
    (ap (λ (t : State). t.rows) c.in-Ok.ensures.made.made)
    (nodes-decoded dict.lists (rows_of table) c.in-Ok.ensures.made.known
    c.change_rows.ensures.frames.dictionary.distinct)
    (subst (λ (max : ℕ). max < length (nodes nat_cmp (rows_of table))) max
    (c.in-Err-Full.ensures.full (ap Err c.in-Err-Full.field-0-is)))
