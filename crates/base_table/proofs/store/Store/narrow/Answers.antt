use Rattle.std.proofs.Common.{◌≡◌, ◌∙◌, ap, arith, sym, subst, List, ℕ, length, map, vec_capacity}
use Rattle.base_table.specs.Places.{narrowed}
use Rattle.base_table.specs.Store.{IsStore, StoredRows, rows_from, shorter_lines}
use Rattle.base_table.proofs.Wider.{narrowed-all, rows-shorter, store_shorter}
use Rattle.base_table.proofs.store.Store.narrow.Goals as goal

codes : (c : goal.After-self-1)
    → c.shorten.new.cells.items ≡ shorter_lines c.self.inside.dims c.self.inside.dims_then
    (length c.self.inside.ids) c.self.inside.codes.items
codes c = c.shorten.ensures.items
    ∙ ap (λ n. shorter_lines c.self.inside.dims c.self.inside.dims_then n c.self.inside.codes.items) c.len-rows.ensures

pub invariant_of-self : goal.invariant_of-self
invariant_of-self c =
    let m = c.self.inside in
    subst (λ (l : List ℕ). IsStore m.dims_then m.measures m.printer m.dims_then m.ids m.prints l m.amounts.items
    (vec_capacity c.shorten.new.cells)) (sym (codes c))
    (store_shorter m.dims m.measures m.printer m.dims_then m.ids m.prints m.codes.items m.amounts.items _ _
    (omega (arith, c.shorten.ensures.capacity)) c.self.invariant)

pub returns-then-self : goal.returns-then-self
returns-then-self c =
    let m = c.self.inside in
    λ j. record {
      dims = ap (λ (s : StoredRows). s.dims_then) c.self.view_is j;
      dims_then = ap (λ (s : StoredRows). s.dims_then) c.self.view_is j;
      printer = ap (λ (s : StoredRows). s.printer) c.self.view_is j;
      measures = ap (λ (s : StoredRows). s.measures) c.self.view_is j;
      rows = (ap (λ (l : List ℕ). rows_from m.dims_then m.measures m.ids l m.amounts.items) (codes c)
          ∙ rows-shorter m.dims m.measures m.dims_then m.ids m.codes.items m.amounts.items c.self.invariant.then_le
          c.self.invariant.codes_len
          ∙ ap (λ (s : StoredRows). map (narrowed s.dims_then) s.rows) c.self.view_is) j;
    }

-- nothing is taken away where there are as many dimensions as then
pub returns-else-self : goal.returns-else-self
returns-else-self c =
    let m = c.self.inside in
    let same : m.dims ≡ m.dims_then = omega (arith, c.if-self.false, c.self.invariant.then_le) in
    let rows = rows_from m.dims m.measures m.ids m.codes.items m.amounts.items in
    sym c.self.view_is ∙ (λ j. record {
      dims = same j;
      dims_then = m.dims_then;
      printer = m.printer;
      measures = m.measures;
      rows = (sym (narrowed-all m.dims m.measures rows c.self.invariant.each) ∙ ap (λ n. map (narrowed n) rows) same) j;
    }) ∙ ap (λ (s : StoredRows). let t : StoredRows
    = record s { dims = s.dims_then; rows = map (narrowed s.dims_then) s.rows } in t) c.self.view_is
