use Rattle.std.proofs.Common.{◌≡◌, ◌∙◌, ap, arith, sym, subst, ℕ, ◌+◌, ◌++◌, ◌∷◌, Bool, true, List, [], Some, None, vec_capacity}
use Rattle.cube_defs.specs.Rows.{Row}
use Rattle.base_table.specs.Places.{Places, has_id, row_of}
use Rattle.base_table.specs.Store.{AreTableFields, StoredRows, base_then, marks_then, placed}
use Rattle.base_table.specs.Last.{picked}
use Rattle.base_table.proofs.Holding.{put_table, put_was, open-view, rows-view, count-view, max-view}
use Rattle.base_table.proofs.table.Table.put.Goals as goal
use Rattle.std.proofs.Common.{if◌then◌else◌}
use Rattle.base_table.proofs.Placed.{placed-push}

opened : (c : goal.After-self-1)
    → AreTableFields c.self.inside.store c.self.inside.here.items c.self.inside.touched.items
    (vec_capacity c.self.inside.touched) c.self.inside.begun c.self.inside.count_then true c.self.inside.count
    c.self.inside.max
opened c =
    let m = c.self.inside in
    subst (λ (b : Bool). AreTableFields m.store m.here.items m.touched.items
    (vec_capacity m.touched) m.begun m.count_then b m.count m.max)
    (open-view c.self.invariant c.args.self.now c.self.view_is c.requires.is_open) c.self.invariant

here : (c : goal.After-self-1) → c.push_reserved.new.self.items ≡ c.self.inside.here.items ++ true ∷ []
here c = c.push_reserved.ensures.items ∙ ap (λ (l : List Bool). l ++ true ∷ []) c.reserve.ensures.items

pub invariant_of-self-2 : goal.invariant_of-self-2
invariant_of-self-2 c =
    let m = c.self.inside in
    let row = row_of c.args.id c.args.tuple.now c.args.amounts.now in
    let room = vec_capacity c.reserve-2.new.self in
    let put = put_table m.store m.here.items m.touched.items (vec_capacity m.touched) room m.begun m.count_then m.count
    m.max row (opened c) c.in_ok-push.ensures.row
    (ap (λ (l : List (Row ℕ)). has_id l c.args.id)
    (rows-view c.self.invariant c.args.self.now c.self.view_is) ∙ c.requires.absent)
    (omega (
      arith,
      c.requires.room,
      count-view c.self.invariant c.args.self.now c.self.view_is,
      max-view c.self.invariant c.args.self.now c.self.view_is,
    )) (omega arith)
    (omega (arith, c.in_ok-reserve-2.ensures.ok, c.reserve.ensures.len, c.len-2.ensures, c.len-3.ensures)) in
    subst (λ (s : StoredRows). AreTableFields s c.push_reserved.new.self.items c.reserve-2.new.self.items room m.begun
    m.count_then m.is_open (m.count + 1) m.max) (sym c.in_ok-push.ensures.ok)
    (subst (λ (l : List Bool). AreTableFields (record m.store { rows = m.store.rows ++ row ∷ [] }) l
    c.reserve-2.new.self.items room m.begun m.count_then m.is_open (m.count + 1) m.max) (sym (here c))
    (subst (λ (l : List ℕ). AreTableFields (record m.store { rows = m.store.rows ++ row ∷ [] })
    (m.here.items ++ true ∷ []) l room m.begun m.count_then m.is_open (m.count + 1) m.max)
    (sym c.reserve-2.ensures.items)
    (subst (λ (b : Bool). AreTableFields (record m.store { rows = m.store.rows ++ row ∷ [] })
    (m.here.items ++ true ∷ []) m.touched.items room m.begun m.count_then b (m.count + 1) m.max)
    (sym (open-view c.self.invariant c.args.self.now c.self.view_is c.requires.is_open)) put)))

pub returns-clause-ok : goal.returns-clause-ok
returns-clause-ok c =
    let m = c.self.inside in
    let row = row_of c.args.id c.args.tuple.now c.args.amounts.now in
    λ j. record {
      dims = (ap (λ (s : StoredRows). s.dims) c.in_ok-push.ensures.ok ∙ ap (λ (t : Places). t.dims) c.self.view_is) j;
      measures = (ap (λ (s : StoredRows). s.measures) c.in_ok-push.ensures.ok
          ∙ ap (λ (t : Places). t.measures) c.self.view_is) j;
      max = ap (λ (t : Places). t.max) c.self.view_is j;
      places = ((λ i. placed (here c i) (c.in_ok-push.ensures.ok i).rows)
          ∙ placed-push m.here.items m.store.rows row c.self.invariant.places
          ∙ ap (λ (t : Places). t.places ++ Some row ∷ []) c.self.view_is) j;
      was = ((λ i. if m.is_open
          then Some (base_then (c.in_ok-push.ensures.ok i)
          (picked (marks_then (here c i) (c.reserve-2.ensures.items i) m.begun) (c.in_ok-push.ensures.ok i).rows))
          else None)
          ∙ ap (λ (l : List (Row ℕ)). if m.is_open then Some (base_then m.store l) else None)
          (put_was m.store m.here.items m.touched.items _ m.begun m.count_then m.count m.max row (opened c))
          ∙ ap (λ (t : Places). t.was) c.self.view_is) j;
    }
