use Rattle.std.proofs.Common.{◌∙◌, ◌≡◌, ap, sym}
use Rattle.base_table.specs.Places.{Places, rows_of}
use Rattle.cube_defs.specs.Cell.{cell_of}
use Rattle.warehouse.proofs.Deletions.{apart-after, canonical-after, few-before, fewer-nodes, from-is, numbers-after, rest-of, steps-after}
use Rattle.warehouse.proofs.Deletions.{tuple-is, tuple-long}
use Rattle.warehouse.proofs.Touching.{touched-row}
use Rattle.warehouse.proofs.deleting.delete_id.Goals as goal

pub group-rest-requires : goal.group-rest-requires
group-rest-requires g c =
    let t = c.args.table.now in
    let u = c.in-Ok.taken.tuple in
    let is = c.recall_invariant.ensures in
    let row = c.requires.1.0 c.in-Ok.ensures.there in
    tuple-long t c.args.id g.deletion is row u (tuple-is t c.args.id g.deletion is row u _ c.in-Ok.ensures.taken)
    ∙ sym (ap (λ (t : Places). t.dims) c.in-Ok.ensures.ok)

pub delete_row-requires : goal.delete_row-requires
delete_row-requires g c κs within =
    let t = c.args.table.now in
    let u = c.in-Ok.taken.tuple in
    let is = c.recall_invariant.ensures in
    let row = c.requires.1.0 c.in-Ok.ensures.there in
    let same : u ≡ cell_of g.deletion.r.tuple = tuple-is t c.args.id g.deletion is row u _ c.in-Ok.ensures.taken in (
      within,
      (
        c.requires.1.1.1.0.opened,
        (
          tuple-long t c.args.id g.deletion is row u same ∙ sym c.requires.1.1.1.0.width,
          (
            from-is t c.args.id g.deletion is row c.args.tree.now.width c.args.tree.now.now c.requires.1.1.1.0.width
                c.requires.1.1.1.1,
            (
              same,
              (
                few-before t c.args.id g.deletion is row,
                rest-of t c.args.id g.deletion is row c.delete.new.self c.in-Ok.ensures.rows u same _
                    (ap (λ (t : Places). t.measures) c.in-Ok.ensures.ok) c.group-rest.ensures.value,
              ),
            ),
          ),
        ),
      ),
    )

pub returns-in-Ok-delete_row-clause-gone : goal.returns-in-Ok-delete_row-clause-gone
returns-in-Ok-delete_row-clause-gone g c = λ _.
    let t = c.args.table.now in
    let t' = c.delete.new.self in
    let b = c.args.tree.now.now in
    let e = c.delete_row.new.arena.now in
    let u = c.in-Ok.taken.tuple in
    let is = c.recall_invariant.ensures in
    let row = c.requires.1.0 c.in-Ok.ensures.there in
    let rows = c.in-Ok.ensures.rows in
    let same : u ≡ cell_of g.deletion.r.tuple = tuple-is t c.args.id g.deletion is row u _ c.in-Ok.ensures.taken in
    record {
      rows = rows;
      fewer = fewer-nodes t c.args.id g.deletion is row (rows_of t') rows;
      canonical = canonical-after t c.args.id g.deletion is row t' rows u same c.args.tree.now.width e
          c.in-Ok-delete_row.ensures.tree;
      numbers = numbers-after t c.args.id g.deletion is row t' rows u same b e c.in-Ok-delete_row.ensures.numbers;
      none_new = c.in-Ok-delete_row.ensures.none_new;
      apart = apart-after t c.args.id g.deletion is row t' rows u same b e c.delete_row.ensures.apart;
      touches = touched-row g.deletion.r u b c.args.tree.now c.delete_row.new.arena same
          c.in-Ok-delete_row.ensures.touched;
      steps = steps-after t c.args.id g.deletion is row t' rows u same c.args.steps.now c.delete_row.new.steps
          c.in-Ok-delete_row.ensures.steps;
    }
