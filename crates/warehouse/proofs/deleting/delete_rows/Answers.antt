use Rattle.std.proofs.Common.{◌≡◌, ◌≤◌, ◌<◌, ◌+◌, ◌∙◌, ◌∷◌, ◌++◌, [], ℕ, List, Some, is_some, ap, ap₂, arith, length, sym, subst, true}
use Rattle.std.proofs.Common.{false, refl, take}
use Rattle.std.specs.Prelude.{not, option_map}
use Rattle.std.proofs.lemmas.List.{take_all}
use Rattle.std.specs.Ordering.{nat_cmp}
use Rattle.base_table.specs.Places.{Places, has_id, row_with_id, rows_of, without_id}
use Rattle.csv_load.specs.Batch.{Change, change_at, deleted, id_of, is_deletion}
use Rattle.cube_defs.specs.Rows.{Row}
use Rattle.cube_defs.specs.Text.{Text}
use Rattle.cube_defs.specs.Tree.{IsCanonical}
use Rattle.qc_arena.specs.Map as arena
use Rattle.qc_arena.specs.Map.{Arena, is_open}
use Rattle.warehouse.specs.Batch as batches
use Rattle.warehouse.specs.Batch.{is_missing}
use Rattle.warehouse.specs.Changing.{AreDeleted}
use Rattle.warehouse.specs.InPlace.{cost_without, gone, kept}
use Rattle.warehouse.specs.State.{ids_of}
use Rattle.warehouse.specs.Steps.{frame}
use Rattle.warehouse.proofs.Changes.{below-more, deletion-adds, deletion-missing, insertion-keeps, insertion-missing, new-deletion}
use Rattle.warehouse.proofs.Changes.{number-here, number-none}
use Rattle.warehouse.proofs.Deletions.{apart-gone, deletion-is, found-at, nodes-more, row_or, steps-going}
use Rattle.warehouse.proofs.Rows.{kept-more, kept-none, missing-before, there-before}
use Rattle.warehouse.proofs.Touching.{touched-gone}
use Rattle.warehouse.proofs.deleting.delete_rows.Goals as goal
use Rattle.warehouse.proofs.deleting.delete_rows.Goals.{then-is_delete+in-Ok-true, else-is_delete}

pub changes-init : goal.changes-init
changes-init g c = record {
  so_far = record {
    rows = sym (kept-none (rows_of c.args.table.now));
    canonical = c.requires.tree;
    fits = c.requires.few_nodes;
    numbers = λ k x h node. h;
    apart = λ k n h all. h;
    touches = λ k apart was. was;
    steps = omega arith;
  };
  none = λ j lt. absurd (omega arith);
  none_new = λ k x h. h;
  frame = refl;
  tree_frame = refl;
}

pub returns-clause-none : goal.returns-clause-none
returns-clause-none g c
    = number-none (is_missing (ids_of (rows_of c.args.table.now))) c.args.batch.now.changes
    (λ j lt. c.changes.invariant.none j (omega (arith, lt, c.changes-test.false, c.len-before-end.ensures.count)))

pub returns-in-Ok-false-clause-missing : goal.returns-in-Ok-false-clause-missing
returns-in-Ok-false-clause-missing g c =
    let begun = rows_of c.args.table.now in
    let changes = c.args.batch.now.changes in
    let k = c.changes.before in
    let change = change_at changes (k + 1) in
    let lt : k < length changes = omega (arith, c.changes-test.true, c.len-before-end.ensures.count) in
    let is : is_deletion change ≡ true = sym c.is_delete.ensures ∙ c.if-is_delete.true in
    let ids = deleted (take k changes) in
    let none : has_id (rows_of c.changes.table) c.id.result ≡ false = sym c.in-Ok-false.ensures.there
    ∙ c.in-Ok-false.field-0-test in
    let missing : has_id (kept ids begun) (id_of change) ≡ false
    = sym (ap₂ has_id c.changes.invariant.so_far.rows c.id.ensures) ∙ none in
    ap (option_map (λ (n : ℕ). batches.Missing n))
    (number-here (is_missing (ids_of begun)) changes k lt c.changes.invariant.none
    (deletion-missing (ids_of begun) change is
    ∙ ap not (missing-before begun ids (id_of change) missing (new-deletion changes k c.requires.once lt is))))

pub delete_id-requires : goal.delete_id-requires
delete_id-requires g c κs within =
    let t = c.changes.table in
    let dims : t.dims ≡ c.args.table.now.dims = ap (λ (t : Places). t.dims) c.changes.invariant.frame in (
      within,
      (
        deletion-is t c.id.result,
        (
          ap (λ (t : Places). is_some t.was) c.changes.invariant.frame ∙ c.requires.batch,
          (
            record {
              opened = ap is_open c.changes.invariant.tree_frame ∙ c.requires.open.opened;
              width = ap (λ (a : Arena). a.width) c.changes.invariant.tree_frame ∙ c.requires.open.width ∙ sym dims;
            },
            subst (λ (m : ℕ). IsCanonical nat_cmp m (rows_of t) c.changes.tree.now)
                (sym (ap (λ (t : Places). t.measures) c.changes.invariant.frame)) c.changes.invariant.so_far.canonical,
          ),
        ),
      ),
    )

pub changes-preserved : goal.changes-preserved
changes-preserved g c =
    let t = c.args.table.now in
    let begun = rows_of t in
    let b = c.args.tree.now in
    let from = c.args.steps.now in
    let changes = c.args.batch.now.changes in
    let k = c.changes.before in
    let kept_so = c.changes.invariant in
    let inv = kept_so.so_far in
    let change = change_at changes (k + 1) in
    let lt : k < length changes = omega (arith, c.changes-test.true, c.len-before-end.ensures.count) in
    let ids = deleted (take k changes) in
    elim c.if-is_delete.branch [
      | then-is_delete+in-Ok-true w ↦
          let is : is_deletion change ≡ true = sym c.is_delete.ensures ∙ w.if-is_delete.true in
          let id = id_of change in
          let table = c.changes.table in
          let left = w.delete_id.new.table in
          let d = c.changes.tree in
          let e = w.delete_id.new.tree in
          let there : has_id (rows_of table) w.id.result ≡ true = sym w.in-Ok-true.ensures.there
          ∙ w.in-Ok-true.field-0-test in
          let out = w.in-Ok-true.ensures.gone w.in-Ok-true.field-0-test in
          let there' : has_id (kept ids begun) id ≡ true = sym (ap₂ has_id inv.rows w.id.ensures) ∙ there in
          let canonical : IsCanonical nat_cmp t.measures (rows_of left) e.now =
          subst (λ (m : ℕ). IsCanonical nat_cmp m (rows_of left) e.now)
          (ap (λ (t : Places). t.measures) kept_so.frame) out.canonical in
          let r = row_or (row_with_id (rows_of table) w.id.result) in
          let new = new-deletion changes k c.requires.once lt is in
          let found : row_with_id (kept ids begun) id ≡ Some r = sym (ap₂ row_with_id inv.rows w.id.ensures)
          ∙ found-at (rows_of table) w.id.result there in
          let costs : w.delete_id.new.steps ≤ c.changes.steps + cost_without t.dims (kept ids begun)
          (row_with_id (kept ids begun) id) =
          subst (λ (n : ℕ). w.delete_id.new.steps ≤ c.changes.steps + cost_without n (kept ids begun)
          (row_with_id (kept ids begun) id)) (ap (λ (t : Places). t.dims) kept_so.frame)
          (subst (λ (rs : List (Row ℕ)). w.delete_id.new.steps ≤ c.changes.steps + cost_without table.dims rs
          (row_with_id rs id)) inv.rows
          (subst (λ (n : ℕ). w.delete_id.new.steps ≤ c.changes.steps + cost_without table.dims
          (rows_of table) (row_with_id (rows_of table) n)) w.id.ensures out.steps)) in
          let done : AreDeleted (ids ++ id ∷ []) t left b e from w.delete_id.new.steps = record {
            rows = out.rows ∙ ap₂ without_id inv.rows w.id.ensures ∙ kept-more begun ids id;
            canonical = canonical;
            fits = omega (arith, out.fewer, inv.fits);
            numbers = nodes-more t.measures (rows_of table) (rows_of left) b.now d.now e.now inv.canonical canonical
                out.none_new inv.numbers out.numbers;
            apart = apart-gone ids id begun r b.now d.now e.now new found inv.apart out.apart;
            touches = touched-gone ids id begun r b d e new found kept_so.none_new inv.touches out.touches;
            steps = steps-going t.dims ids begun id from c.changes.steps w.delete_id.new.steps inv.steps costs;
          } in
          rw (w.table-is, w.tree-is, w.steps-is) (record {
            so_far = subst (λ (is : List ℕ). AreDeleted is t left b e from w.delete_id.new.steps)
                (sym (deletion-adds changes k lt is)) done;
            none = below-more (is_missing (ids_of begun)) changes k kept_so.none
                (deletion-missing (ids_of begun) change is ∙ ap not (there-before begun ids id there'));
            none_new = λ q x h. kept_so.none_new q x (out.none_new q x h);
            frame = w.delete_id.ensures.frame ∙ kept_so.frame;
            tree_frame = w.delete_id.ensures.tree_frame ∙ kept_so.tree_frame;
          })
      | else-is_delete w ↦
          let is : is_deletion change ≡ false = sym c.is_delete.ensures ∙ w.if-is_delete.false in
          rw (w.table-is, w.tree-is, w.steps-is) (record {
            so_far = subst (λ (is : List ℕ). AreDeleted is t c.changes.table b c.changes.tree from c.changes.steps)
                (sym (insertion-keeps changes k lt is)) inv;
            none = below-more (is_missing (ids_of begun)) changes k kept_so.none
                (insertion-missing (ids_of begun) change is);
            none_new = kept_so.none_new;
            frame = kept_so.frame;
            tree_frame = kept_so.tree_frame;
          })
    ]

pub returns-clause-deleted : goal.returns-clause-deleted
returns-clause-deleted g c =
    let changes = c.args.batch.now.changes in
    subst (λ (xs : List (Change Text)). AreDeleted (deleted xs) c.args.table.now c.changes.table c.args.tree.now
    c.changes.tree c.args.steps.now c.changes.steps)
    (take_all c.changes.before changes (omega (arith, c.changes-test.false, c.len-before-end.ensures.count)))
    c.changes.invariant.so_far
