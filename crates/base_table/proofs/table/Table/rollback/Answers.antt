use Rattle.std.proofs.Common.{◌≡◌, ◌∙◌, ap, map, sym, subst, ℕ, Bool, false, List, [], Some, None, take, vec_capacity, if◌then◌else◌}
use Rattle.cube_defs.specs.Rows.{Row}
use Rattle.base_table.specs.Places.{Places, narrowed, rows_in}
use Rattle.base_table.specs.Store.{AreTableFields, StoredRows, base_then, marks_then, placed, restored}
use Rattle.base_table.specs.Last.{picked}
use Rattle.base_table.proofs.Holding.{base, rolled_store, rolled_table, open-view, then_rows}
use Rattle.base_table.proofs.table.Table.rollback.Goals as goal
use Rattle.base_table.proofs.Placed.{rows_in-placed}
use Rattle.base_table.proofs.Columns.{picked-map}

marks : (c : goal.After-self-2-1)
    → c.restore.new.here.items ≡ marks_then c.self.inside.here.items c.self.inside.touched.items c.self.inside.begun
marks c = c.restore.ensures.marks ∙ ap (restored c.self.inside.touched.items) c.truncate.ensures.items

store : (c : goal.After-self-2-1) → c.narrow.new.self ≡ rolled_store c.self.inside.store c.self.inside.begun
store c = c.narrow.ensures
    ∙ ap (λ (s : StoredRows). let t : StoredRows
    = record s { dims = s.dims_then; rows = map (narrowed s.dims_then) s.rows } in t) c.cut.ensures

pub invariant_of-self : goal.invariant_of-self
invariant_of-self c =
    let m = c.self.inside in
    let rolled = rolled_store m.store m.begun in
    subst (λ (s : StoredRows). AreTableFields s c.restore.new.here.items c.clear.new.self.items
    (vec_capacity c.clear.new.self) m.begun m.count_then false m.count_then m.max) (sym (store c))
    (subst (λ (l : List Bool). AreTableFields rolled l c.clear.new.self.items (vec_capacity c.clear.new.self) m.begun
    m.count_then false m.count_then m.max) (sym (marks c))
    (subst (λ (l : List ℕ). AreTableFields rolled (marks_then m.here.items m.touched.items m.begun) l
    (vec_capacity c.clear.new.self) m.begun m.count_then false m.count_then m.max) (sym c.clear.ensures.items)
    (subst (λ (n : ℕ). AreTableFields rolled (marks_then m.here.items m.touched.items m.begun)
    [] n m.begun m.count_then false m.count_then m.max) (sym c.clear.ensures.capacity)
    (rolled_table m.store m.here.items m.touched.items _ m.begun m.count_then m.is_open m.count m.max
    c.self.invariant))))

pub returns-clause-back : goal.returns-clause-back
returns-clause-back c =
    let m = c.self.inside in
    let kept = marks_then m.here.items m.touched.items m.begun in
    let narrow = narrowed m.store.dims_then in
    (λ j. Some (base (store c j).dims (rows_in (placed (marks c j) (store c j).rows))))
    ∙ ap (λ (l : List (Row ℕ)). Some (base m.store.dims_then l))
    (rows_in-placed kept (map narrow (take m.begun m.store.rows)) ∙ picked-map narrow kept (take m.begun m.store.rows)
    ∙ ap (map narrow) (then_rows c.self.invariant))
    ∙ ap (λ (b : Bool). if b then Some (base_then m.store (picked kept m.store.rows)) else None)
    (sym (open-view c.self.invariant c.args.self.now c.self.view_is c.requires.is_open))
    ∙ ap (λ (t : Places). t.was) c.self.view_is
