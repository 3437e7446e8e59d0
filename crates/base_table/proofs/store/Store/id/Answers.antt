use Rattle.std.proofs.Common.{◌∙◌, arith, ℕ, List, ap, get_or}
use Rattle.std.proofs.lemmas.List.{get_or-map}
use Rattle.base_table.specs.Store.{id_of}
use Rattle.base_table.proofs.Columns.{ids-view, length-view}
use Rattle.base_table.proofs.store.Store.id.Goals as goal

pub key-requires : goal.key-requires
key-requires c =
    let m = c.self.inside in
    omega (
      arith,
      length-view m.dims m.measures m.printer m.dims_then m.ids m.prints m.codes.items m.amounts.items _
          c.self.invariant c.args.self.now c.self.view_is,
      c.requires,
    )

pub returns : goal.returns
returns c =
    let m = c.self.inside in
    λ d.
    c.key.ensures 0 ∙ ap (λ (l : List ℕ). get_or l c.args.place 0)
    (ids-view m.dims m.measures m.printer m.dims_then m.ids m.prints m.codes.items m.amounts.items _
    c.self.invariant c.args.self.now c.self.view_is)
    ∙ get_or-map id_of c.args.self.now.rows c.args.place d 0 c.requires
