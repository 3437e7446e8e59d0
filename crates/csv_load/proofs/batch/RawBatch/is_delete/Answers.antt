use Rattle.std.proofs.Common.{◌∙◌, ◌<◌, ◌-◌, sym, ap, arith, length, false}
use Rattle.std.proofs.lemmas.List.{get_or_read}
use Rattle.csv_load.specs.Batch.{Batch, Delete, change_at, is_deletion}
use Rattle.csv_load.proofs.Columnar.{change-within, kind-at}
use Rattle.csv_load.proofs.batch.RawBatch.is_delete.Goals as goal

pub index-requires : goal.index-requires
index-requires c =
    omega (arith, c.self.invariant.deletes_fit, change-within c.self.inside.changes c.self.view_is c.requires)

pub returns : goal.returns
returns c =
    let inside = c.self.inside in
    let lt = change-within inside.changes c.self.view_is c.requires in
    let within : c.args.k - 1 < length inside.changes.deletes.items = omega (arith, lt, c.self.invariant.deletes_fit) in
    get_or_read inside.changes.deletes.items (c.args.k - 1) c.index.result.now within c.index.ensures false
    ∙ sym (kind-at inside.dims inside.measures inside.changes (c.args.k - 1) (Delete 0) lt)
    ∙ ap (λ (b : Batch). is_deletion (change_at b.changes c.args.k)) c.self.view_is
