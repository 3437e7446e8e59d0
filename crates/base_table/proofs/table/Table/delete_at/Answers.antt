use Rattle.std.proofs.Common.{◌≡◌, ◌∙◌, ap, arith, sym, subst, ℕ, ◌-◌, Bool, true, false, List, [], get_or, Some, None, set, map}
use Rattle.std.proofs.Common.{vec_capacity, if◌then◌else◌}
use Rattle.cube_defs.specs.Rows.{Row}
use Rattle.base_table.specs.Places.{Places, cleared, padded}
use Rattle.base_table.specs.Store.{AreTableFields, base_then, marks_then}
use Rattle.base_table.specs.Last.{picked}
use Rattle.base_table.proofs.Holding.{some_here, take_table, taken_places, at-view, at_row, open-view, row-view}
use Rattle.base_table.proofs.table.Table.delete_at.Goals as goal
use Rattle.base_table.proofs.Batches.{marks_stay}

no_row : Row ℕ
no_row = record { id = 0; tuple = []; amounts = [] }

pub tuple-requires : goal.tuple-requires
tuple-requires c =
    omega (
      arith,
      (at-view c.self.invariant c.args.self.now c.self.view_is c.args.place c.requires.there).within,
      c.self.invariant.places,
    )

pub amounts-requires : goal.amounts-requires
amounts-requires c =
    omega (
      arith,
      (at-view c.self.invariant c.args.self.now c.self.view_is c.args.place c.requires.there).within,
      c.self.invariant.places,
    )

pub push_touched-requires : goal.push_touched-requires
push_touched-requires c =
    let m = c.self.inside in
    omega (
      arith,
      c.self.invariant.touched_le,
      c.self.invariant.room_for_all,
      some_here m.store m.here.items m.touched.items _ m.begun m.count_then m.is_open m.count m.max c.args.place
          c.self.invariant (at-view c.self.invariant c.args.self.now c.self.view_is c.args.place c.requires.there),
    )

pub index_mut-requires : goal.index_mut-requires
index_mut-requires c =
    omega (
      arith,
      (at-view c.self.invariant c.args.self.now c.self.view_is c.args.place c.requires.there).within,
    )

pub overflow_sub-self : goal.overflow_sub-self
overflow_sub-self c =
    let m = c.self.inside in
    some_here m.store m.here.items m.touched.items _ m.begun m.count_then m.is_open m.count m.max c.args.place
    c.self.invariant (at-view c.self.invariant c.args.self.now c.self.view_is c.args.place c.requires.there)

pub invariant_of-self : goal.invariant_of-self
invariant_of-self c =
    let m = c.self.inside in
    let o : m.is_open ≡ true
    = open-view c.self.invariant c.args.self.now c.self.view_is c.requires.is_open in
    let at = at-view c.self.invariant c.args.self.now c.self.view_is c.args.place c.requires.there in
    subst (λ (b : Bool). AreTableFields m.store (set m.here.items c.args.place false) c.push_touched.new.touched.items
    (vec_capacity c.push_touched.new.touched) m.begun m.count_then b (m.count - 1) m.max) (sym o)
    (subst (λ (n : ℕ). AreTableFields m.store (set m.here.items c.args.place false) c.push_touched.new.touched.items n
    m.begun m.count_then true (m.count - 1) m.max) (sym c.push_touched.ensures.capacity)
    (subst (λ (l : List ℕ). AreTableFields m.store (set m.here.items c.args.place false) l
    (vec_capacity m.touched) m.begun m.count_then true (m.count - 1) m.max) (sym c.push_touched.ensures.items)
    (take_table m.store m.here.items m.touched.items (vec_capacity m.touched) m.begun m.count_then m.count
    m.max c.args.place
    (subst (λ (b : Bool). AreTableFields m.store m.here.items m.touched.items
    (vec_capacity m.touched) m.begun m.count_then b m.count m.max) o c.self.invariant) at.within at.there)))

pub returns-clause-table : goal.returns-clause-table
returns-clause-table c =
    let m = c.self.inside in
    let at = at-view c.self.invariant c.args.self.now c.self.view_is c.args.place c.requires.there in
    let id = (get_or m.store.rows c.args.place no_row).id in
    at_row c.args.self.now c.args.place (get_or m.store.rows c.args.place no_row) _
    (row-view c.self.invariant c.args.self.now c.self.view_is c.args.place no_row at)
    (λ j. record {
      dims = ap (λ (t : Places). t.dims) c.self.view_is j;
      measures = ap (λ (t : Places). t.measures) c.self.view_is j;
      max = ap (λ (t : Places). t.max) c.self.view_is j;
      places = (taken_places m.store m.here.items m.touched.items _ m.begun m.count_then m.is_open m.count m.max
          c.args.place no_row c.self.invariant at ∙ ap (λ (t : Places). map (cleared id) t.places) c.self.view_is) j;
      was = (ap (λ (l : List ℕ). if m.is_open
          then Some (base_then m.store
          (picked (marks_then (set m.here.items c.args.place false) l m.begun) m.store.rows))
          else None) c.push_touched.ensures.items
          ∙ ap (λ (l : List Bool). if m.is_open then Some (base_then m.store (picked l m.store.rows)) else None)
          (marks_stay m.here.items m.touched.items m.begun c.args.place at.there)
          ∙ ap (λ (t : Places). t.was) c.self.view_is) j;
    })

pub returns-clause-taken : goal.returns-clause-taken
returns-clause-taken c =
    let m = c.self.inside in
    let at = at-view c.self.invariant c.args.self.now c.self.view_is c.args.place c.requires.there in
    at_row c.args.self.now c.args.place (get_or m.store.rows c.args.place no_row) _
    (row-view c.self.invariant c.args.self.now c.self.view_is c.args.place no_row at) (
      c.tuple.ensures.value no_row,
      c.padded.ensures
          ∙ ap padded (c.amounts.ensures.value no_row),
    )
