use Rattle.std.proofs.Common.{◌∙◌, ◌≤◌, ap, arith, length, Bool, List, sym}
use Rattle.std.specs.Prelude.{count_by, not}
use Rattle.std.proofs.lemmas.List.Sums.{count_by-le-length}
use Rattle.csv_load.specs.Batch.{Batch, inserted}
use Rattle.csv_load.proofs.Columnar.{count-inserted, length-all}
use Rattle.csv_load.proofs.batch.RawBatch.insertions.Goals as goal

pub overflow_cast-result : goal.overflow_cast-result
overflow_cast-result c =
    let inside = c.self.inside in
    let most : count_by not c.deref.result.now ≤ length c.deref.result.now
    = count_by-le-length not c.deref.result.now in
    omega (
      arith,
      most,
      c.count_false.ensures,
      ap length c.deref.ensures.value,
      c.self.invariant.deletes_fit,
      c.self.invariant.is_batch.few,
      length-all inside.dims inside.measures inside.changes,
    )

pub returns : goal.returns
returns c =
    c.count_false.ensures
    ∙ ap (λ (xs : List Bool). count_by not xs) c.deref.ensures.value
    ∙ sym (count-inserted c.self.inside.dims c.self.inside.measures c.self.inside.changes c.self.invariant)
    ∙ ap (λ (b : Batch). length (inserted b.changes)) c.self.view_is
