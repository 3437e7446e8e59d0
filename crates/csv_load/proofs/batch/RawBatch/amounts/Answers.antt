use Rattle.std.proofs.Common.{◌∙◌, ◌≡◌, ◌-◌, ◌+◌, ◌*◌, sym, ap, arith, length, false, List, ℤ}
use Rattle.std.specs.Prelude.{slice_range}
use Rattle.cube_defs.specs.Rows.{Row}
use Rattle.cube_defs.specs.Text.{Text}
use Rattle.csv_load.specs.Batch.{Batch, Delete, change_at, is_deletion, row_of}
use Rattle.csv_load.proofs.Columnar.{all_in, below-all, change-within, row-at}
use Rattle.csv_load.proofs.batch.RawBatch.amounts.Goals as goal

pub slice_bounds-result-end : goal.slice_bounds-result-end
slice_bounds-result-end c =
    let inside = c.self.inside in
    let lt = change-within inside.changes c.self.view_is c.requires.there in
    omega (
      arith,
      c.self.invariant.amounts_fit,
      below-all inside.measures (length inside.changes.ids.items) (c.args.k - 1) inside.measures lt (omega arith),
    )

pub returns : goal.returns
returns c =
    let inside = c.self.inside in
    let start = (c.args.k - 1) * inside.measures in
    let lt = change-within inside.changes c.self.view_is c.requires.there in
    let is : is_deletion (change_at (all_in inside.dims inside.measures inside.changes) c.args.k) ≡ false
    = ap (λ (b : Batch). is_deletion (change_at b.changes c.args.k)) c.self.view_is ∙ c.requires.inserts in
    ap (λ (xs : List ℤ). slice_range xs start (start + inside.measures)) c.deref.ensures.value
    ∙ sym (ap (λ (row : Row Text). row.amounts)
    (row-at inside.dims inside.measures inside.changes (c.args.k - 1) (Delete 0) lt is))
    ∙ ap (λ (b : Batch). (row_of (change_at b.changes c.args.k)).amounts) c.self.view_is
