use Rattle.std.proofs.Common.{◌≡◌, ◌-◌, ◌+◌, ◌∙◌, ℕ, List, ap, ap₂, subst, sym}
use Rattle.base_table.specs.Places.{Places, rows_of}
use Rattle.cube_defs.specs.Rows.{Row}
use Rattle.value_dict.specs.Decoded.{RowsAreCodes}
use Rattle.cube_snapshot.specs.Format.{get_times}
use Rattle.cube_snapshot.specs.Parts.{row}
use Rattle.cube_snapshot.specs.Readers.{IsNextRow, MayBeRows, MayCome}
use Rattle.cube_snapshot.proofs.Looping.{as_reads, goes_on, stop_reads, with_prefix}
use Rattle.cube_snapshot.proofs.NextRow.{known_push, may_come}
use Rattle.cube_snapshot.proofs.rows.rows_at.Goals as goal

pub returns-in-Err-clause-reads : goal.returns-in-Err-clause-reads
returns-in-Err-clause-reads c =
    let first = c.args.table.now in
    let t = c.rows.table in
    let lists = c.args.dict.now.lists in
    let inv = c.rows.invariant in
    let a = row first.dims first.measures in
    let dims : t.dims ≡ first.dims = ap (λ (p : Places). p.dims) inv.kept in
    let measures : t.measures ≡ first.measures = ap (λ (p : Places). p.measures) inv.kept in
    let max : t.max ≡ first.max = ap (λ (p : Places). p.max) inv.kept in
    stop_reads a (MayCome lists t.max (rows_of t)) (MayBeRows lists first.max) (rows_of t) c.args.count c.rows.counter
    c.rows.rest.now (get_times a c.args.count c.args.bytes.now) c.in-Err.refused c.rows-test.true
    (as_reads (λ y. MayCome lists t.max (rows_of t) y.0) (a.get c.rows.rest.now) c.in-Err.refused
    (λ e y f. c.in-Err.ensures.form e y (ap₂ (λ m n. (row m n).get c.rows.rest.now) dims measures ∙ f)))
    (λ x more may. subst (λ (m : ℕ). MayCome lists m (rows_of t) x) (sym max)
    (may_come lists first.max (rows_of t) x more may)) inv.so_far

pub rows-preserved : goal.rows-preserved
rows-preserved c =
    let first = c.args.table.now in
    let t = c.rows.table in
    let t' = c.read_row.new.table in
    let lists = c.args.dict.now.lists in
    let inv = c.rows.invariant in
    let a = row first.dims first.measures in
    let dims : t.dims ≡ first.dims = ap (λ (p : Places). p.dims) inv.kept in
    let measures : t.measures ≡ first.measures = ap (λ (p : Places). p.measures) inv.kept in
    let n : IsNextRow lists t t' c.rows.rest.now c.in-Ok.after.now = c.in-Ok.ensures.row in
    record {
      kept = n.kept ∙ inv.kept;
      wide = c.in-Ok.ensures.cell_dims ∙ inv.wide;
      known = subst (RowsAreCodes lists) (sym n.rows)
          (known_push lists first.max (rows_of t) n.row inv.known n.came.known);
      so_far = ap (λ (rs : List (Row ℕ)). with_prefix a rs
          (get_times a (c.args.count - (c.rows.counter + 1)) c.in-Ok.after.now)) n.rows
          ∙ goes_on a (rows_of t) c.args.count c.rows.counter c.rows.rest.now
          (get_times a c.args.count c.args.bytes.now) n.row c.in-Ok.after.now c.rows-test.true
          (ap₂ (λ m n. (row m n).get c.rows.rest.now) (sym dims) (sym measures) ∙ n.read) inv.so_far;
    }
