use Rattle.std.proofs.Common.{◌≡◌, ◌∙◌, ◌+◌, ap, arith, sym, subst, List, ℕ, length, map, vec_capacity}
use Rattle.base_table.specs.Places.{with_code}
use Rattle.base_table.specs.Store.{IsStore, StoredRows, longer_lines, rows_from}
use Rattle.base_table.proofs.Wider.{rows-longer, store_longer}
use Rattle.base_table.proofs.store.Store.widen.Goals as goal

codes : (c : goal.After-self-1)
    → c.lengthen.new.cells.items ≡ longer_lines c.self.inside.dims c.args.code
    (length c.self.inside.ids) c.self.inside.codes.items
codes c = c.lengthen.ensures.items
    ∙ ap (λ n. longer_lines c.self.inside.dims c.args.code n c.self.inside.codes.items) c.len-rows.ensures

pub invariant_of-self : goal.invariant_of-self
invariant_of-self c =
    let m = c.self.inside in
    subst (λ (l : List ℕ). IsStore (m.dims + 1) m.measures m.printer m.dims_then m.ids m.prints l m.amounts.items
    (vec_capacity c.lengthen.new.cells)) (sym (codes c))
    (store_longer m.dims m.measures m.printer m.dims_then c.args.code m.ids m.prints m.codes.items m.amounts.items _ _
    (omega (arith, c.requires.few, ap (λ (s : StoredRows). s.dims) c.self.view_is)) c.requires.small
    c.lengthen.ensures.capacity c.self.invariant)

pub returns : goal.returns
returns c =
    let m = c.self.inside in
    λ j. record {
      dims = ap (λ (s : StoredRows). s.dims + 1) c.self.view_is j;
      dims_then = ap (λ (s : StoredRows). s.dims_then) c.self.view_is j;
      printer = ap (λ (s : StoredRows). s.printer) c.self.view_is j;
      measures = ap (λ (s : StoredRows). s.measures) c.self.view_is j;
      rows = (ap (λ (l : List ℕ). rows_from (m.dims + 1) m.measures m.ids l m.amounts.items) (codes c)
          ∙ rows-longer m.dims m.measures c.args.code m.ids m.codes.items m.amounts.items c.self.invariant.codes_len
          ∙ ap (λ (s : StoredRows). map (with_code c.args.code) s.rows) c.self.view_is) j;
    }
