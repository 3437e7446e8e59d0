use Rattle.std.proofs.Common.{◌≡◌, ◌∙◌, ◌+◌, ◌<◌, ap, arith, sym, subst, ℕ, Bool, true, List, Some, None, map, if◌then◌else◌, vec_capacity}
use Rattle.std.specs.Prelude.{option_map}
use Rattle.cube_defs.specs.Rows.{Row}
use Rattle.base_table.specs.Last.{picked}
use Rattle.base_table.specs.Places.{Places, rows_of, with_code}
use Rattle.base_table.specs.Store.{AreTableFields, StoredRows, base_then, marks_then, placed}
use Rattle.base_table.proofs.Holding.{base, dims-view, open-view, wider_table, wider_then}
use Rattle.base_table.proofs.Wider.{placed_mapped, rows_in_mapped}
use Rattle.base_table.proofs.table.Table.widen.Goals as goal

pub invariant_of-self : goal.invariant_of-self
invariant_of-self c =
    let m = c.self.inside in
    let o : m.is_open ≡ true
    = open-view c.self.invariant c.args.self.now c.self.view_is c.requires.is_open in
    let few : m.store.dims < 16
    = omega (
      arith,
      c.requires.few,
      dims-view c.self.invariant c.args.self.now c.self.view_is,
    ) in
    subst (λ (s : StoredRows). AreTableFields s m.here.items m.touched.items
    (vec_capacity m.touched) m.begun m.count_then m.is_open m.count m.max) (sym c.widen.ensures)
    (subst (λ (b : Bool). AreTableFields
    (record m.store { dims = m.store.dims + 1; rows = map (with_code c.args.code) m.store.rows }) m.here.items
    m.touched.items (vec_capacity m.touched) m.begun m.count_then b m.count m.max) (sym o)
    (wider_table m.store m.here.items m.touched.items _ m.begun m.count_then m.count m.max c.args.code few
    c.requires.small
    (subst (λ (b : Bool). AreTableFields m.store m.here.items m.touched.items
    (vec_capacity m.touched) m.begun m.count_then b m.count m.max) o c.self.invariant)))

pub returns-clause-value : goal.returns-clause-value
returns-clause-value c =
    let m = c.self.inside in
    let kept = marks_then m.here.items m.touched.items m.begun in
    λ j. record {
      dims = (ap (λ (s : StoredRows). s.dims) c.widen.ensures ∙ ap (λ (t : Places). t.dims + 1) c.self.view_is) j;
      measures = (ap (λ (s : StoredRows). s.measures) c.widen.ensures
          ∙ ap (λ (t : Places). t.measures) c.self.view_is) j;
      max = ap (λ (t : Places). t.max) c.self.view_is j;
      places = (ap (λ (s : StoredRows). placed m.here.items s.rows) c.widen.ensures
          ∙ placed_mapped (with_code c.args.code) m.here.items m.store.rows
          ∙ ap (λ (t : Places). map (option_map (with_code c.args.code)) t.places) c.self.view_is) j;
      was = (ap (λ (s : StoredRows). if m.is_open then Some (base_then s (picked kept s.rows))
          else None) c.widen.ensures
          ∙ ap (λ (l : List (Row ℕ)). if m.is_open then Some (base m.store.dims_then l) else None)
          (wider_then m.store m.here.items m.touched.items _ m.begun m.count_then m.is_open m.count m.max
          c.args.code c.self.invariant)
          ∙ ap (λ (t : Places). t.was) c.self.view_is) j;
    }

pub returns-clause-rows : goal.returns-clause-rows
returns-clause-rows c = ap rows_of (returns-clause-value c)
    ∙ rows_in_mapped (with_code c.args.code) c.args.self.now.places
