use Rattle.std.proofs.Common.{◌∙◌, ◌-◌, arith, sym, ap}
use Rattle.std.proofs.lemmas.List.{get_or_read}
use Rattle.csv_load.specs.Batch.{Batch, Delete, change_at, id_of}
use Rattle.csv_load.proofs.Columnar.{change-within, id-at}
use Rattle.csv_load.proofs.batch.RawBatch.id.Goals as goal

pub index-requires : goal.index-requires
index-requires c = omega (arith, change-within c.self.inside.changes c.self.view_is c.requires)

pub returns : goal.returns
returns c =
    let inside = c.self.inside in
    let lt = change-within inside.changes c.self.view_is c.requires in
    get_or_read inside.changes.ids.items (c.args.k - 1) c.index.result.now lt c.index.ensures 0
    ∙ sym (id-at inside.dims inside.measures inside.changes (c.args.k - 1) (Delete 0) lt)
    ∙ ap (λ (b : Batch). id_of (change_at b.changes c.args.k)) c.self.view_is
