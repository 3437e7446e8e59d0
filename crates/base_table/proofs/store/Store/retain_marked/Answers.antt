use Rattle.base_table.proofs.Columns.{length-view, length-prints, store_kept, rows-keep}
use Rattle.base_table.specs.Store.{StoredRows, rows_from}
use Rattle.std.proofs.Common.{◌∙◌, ◌*◌, ap, arith, sym}
use Rattle.base_table.proofs.store.Store.retain_marked.Goals as goal
use Rattle.base_table.specs.Last.{picked}

pub retain_marked-requires : goal.retain_marked-requires
retain_marked-requires c =
    let m = c.self.inside in
    c.requires ∙ length-view m.dims m.measures m.printer m.dims_then m.ids m.prints m.codes.items m.amounts.items _
    c.self.invariant c.args.self.now c.self.view_is

pub retain_marked-requires-2 : goal.retain_marked-requires-2
retain_marked-requires-2 c =
    let m = c.self.inside in
    c.requires ∙ length-view m.dims m.measures m.printer m.dims_then m.ids m.prints m.codes.items m.amounts.items _
    c.self.invariant c.args.self.now c.self.view_is
    ∙ sym (length-prints m.dims m.measures m.printer m.dims_then m.ids m.prints m.codes.items m.amounts.items _
    c.self.invariant c.args.self.now c.self.view_is)

pub retain_lines-requires : goal.retain_lines-requires
retain_lines-requires c =
    let m = c.self.inside in
    c.self.invariant.codes_len
    ∙ ap (λ k. k * m.dims) (sym (c.requires
    ∙ length-view m.dims m.measures m.printer m.dims_then m.ids m.prints m.codes.items m.amounts.items _
    c.self.invariant c.args.self.now c.self.view_is))

pub retain_lines-requires-2 : goal.retain_lines-requires-2
retain_lines-requires-2 c =
    let m = c.self.inside in
    c.self.invariant.amounts_len
    ∙ ap (λ k. k * m.measures)
    (sym (c.requires ∙ length-view m.dims m.measures m.printer m.dims_then m.ids m.prints m.codes.items
    m.amounts.items _ c.self.invariant c.args.self.now c.self.view_is))

pub invariant_of-self : goal.invariant_of-self
invariant_of-self c =
    let m = c.self.inside in
    rw (
      c.retain_marked.ensures,
      c.retain_marked-2.ensures,
      c.retain_lines.ensures.items,
      c.retain_lines-2.ensures.items,
    )
    (store_kept m.dims m.measures m.printer m.dims_then c.args.kept.now m.ids m.prints m.codes.items m.amounts.items _ _
    c.self.invariant (omega (arith, c.retain_lines.ensures.capacity)) (c.requires
    ∙ length-view m.dims m.measures m.printer m.dims_then m.ids m.prints m.codes.items m.amounts.items _
    c.self.invariant c.args.self.now c.self.view_is))

pub returns : goal.returns
returns c =
    let m = c.self.inside in
    let len = c.requires ∙ length-view m.dims m.measures m.printer m.dims_then m.ids m.prints m.codes.items
    m.amounts.items _ c.self.invariant c.args.self.now c.self.view_is in
    λ j. record {
      dims = ap (λ (s : StoredRows). s.dims) c.self.view_is j;
      dims_then = ap (λ (s : StoredRows). s.dims_then) c.self.view_is j;
      printer = ap (λ (s : StoredRows). s.printer) c.self.view_is j;
      measures = ap (λ (s : StoredRows). s.measures) c.self.view_is j;
      rows = ((λ i. rows_from m.dims m.measures (c.retain_marked.ensures i) (c.retain_lines.ensures.items i)
          (c.retain_lines-2.ensures.items i))
          ∙ rows-keep m.dims m.measures c.args.kept.now m.ids m.codes.items m.amounts.items len
          c.self.invariant.codes_len c.self.invariant.amounts_len
          ∙ ap (λ (s : StoredRows). picked c.args.kept.now s.rows) c.self.view_is) j;
    }
