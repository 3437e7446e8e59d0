use Rattle.std.proofs.Common.{◌∙◌, ◌≡◌, ◌<◌, ◌≤◌, ◌-◌, ◌+◌, sym, ap, arith, length, false}
use Rattle.csv_load.specs.Batch.{Batch, Delete, change_at, is_deletion, text_at}
use Rattle.csv_load.proofs.Columnar.{all_in, below-all, change-within, text-at}
use Rattle.csv_load.proofs.batch.RawBatch.text.Goals as goal

pub get-requires : goal.get-requires
get-requires c =
    let inside = c.self.inside in
    let lt = change-within inside.changes c.self.view_is c.requires.insertion.there in
    let dim : c.args.dim + 1 ≤ inside.dims = omega (arith, c.requires.dim, ap (λ (b : Batch). b.dims) c.self.view_is) in
    omega (
      arith,
      c.self.invariant.texts_fit,
      below-all inside.dims (length inside.changes.ids.items) (c.args.k - 1) (c.args.dim + 1) lt dim,
    )

pub returns : goal.returns
returns c =
    let inside = c.self.inside in
    let lt = change-within inside.changes c.self.view_is c.requires.insertion.there in
    let dim : c.args.dim < inside.dims = omega (arith, c.requires.dim, ap (λ (b : Batch). b.dims) c.self.view_is) in
    let is : is_deletion (change_at (all_in inside.dims inside.measures inside.changes) c.args.k) ≡ false
    = ap (λ (b : Batch). is_deletion (change_at b.changes c.args.k)) c.self.view_is ∙ c.requires.insertion.inserts in
    c.get.ensures
    ∙ sym (text-at inside.dims inside.measures inside.changes (c.args.k - 1) c.args.dim (Delete 0) lt is dim)
    ∙ ap (λ (b : Batch). text_at b.changes c.args.k c.args.dim) c.self.view_is
