use Rattle.base_table.proofs.Columns.{length-view, store_cut, rows-take}
use Rattle.base_table.specs.Store.{StoredRows, rows_from}
use Rattle.std.proofs.Common.{◌∙◌, ap, arith, take}
use Rattle.base_table.proofs.store.Store.cut.Goals as goal

pub cut-requires : goal.cut-requires
cut-requires c =
    let m = c.self.inside in
    omega (
      arith,
      length-view m.dims m.measures m.printer m.dims_then m.ids m.prints m.codes.items m.amounts.items _
          c.self.invariant c.args.self.now c.self.view_is,
    )

pub invariant_of-self : goal.invariant_of-self
invariant_of-self c =
    let m = c.self.inside in
    rw (c.cut.ensures, c.cut-2.ensures, c.truncate.ensures.items, c.truncate-2.ensures.items)
    (store_cut m.dims m.measures m.printer m.dims_then c.args.len m.ids m.prints m.codes.items m.amounts.items _ _
    c.self.invariant (omega (arith, c.truncate.ensures.capacity))
    (omega (
      arith,
      length-view m.dims m.measures m.printer m.dims_then m.ids m.prints m.codes.items m.amounts.items
          _ c.self.invariant c.args.self.now c.self.view_is,
    )))

pub returns : goal.returns
returns c =
    let m = c.self.inside in
    λ j. record {
      dims = ap (λ (s : StoredRows). s.dims) c.self.view_is j;
      dims_then = ap (λ (s : StoredRows). s.dims_then) c.self.view_is j;
      printer = ap (λ (s : StoredRows). s.printer) c.self.view_is j;
      measures = ap (λ (s : StoredRows). s.measures) c.self.view_is j;
      rows = ((λ i. rows_from m.dims m.measures (c.cut.ensures i) (c.truncate.ensures.items i)
          (c.truncate-2.ensures.items i)) ∙ rows-take m.dims m.measures c.args.len m.ids m.codes.items m.amounts.items
          ∙ ap (λ (s : StoredRows). take c.args.len s.rows) c.self.view_is) j;
    }
