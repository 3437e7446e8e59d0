use Rattle.std.proofs.Common.{◌≡◌, ◌∙◌, ap, refl, sym, subst, Bool, false, Some, vec_capacity}
use Rattle.base_table.specs.Places.{Places, rows_of}
use Rattle.base_table.proofs.Holding.{base, begun_table, begun_rows, closed-view}
use Rattle.base_table.proofs.table.Table.begin.Goals as goal
use Rattle.base_table.specs.Store.{AreTableFields, StoredRows, places_with}

-- the look-up is prepared, and the rows are the same
same : (c : goal.After-self-1)
    → places_with c.link.new.self c.self.inside.here.items c.self.inside.touched.items c.self.inside.begun
    c.self.inside.is_open c.self.inside.max ≡ c.args.self.now
same c =
    let m = c.self.inside in
    ap (λ (s : StoredRows). places_with s m.here.items m.touched.items m.begun m.is_open m.max)
    c.link.ensures ∙ c.self.view_is

closed : (c : goal.After-self-1)
    → AreTableFields c.link.new.self c.self.inside.here.items c.self.inside.touched.items
    (vec_capacity c.self.inside.touched) c.self.inside.begun c.self.inside.count_then false c.self.inside.count
    c.self.inside.max
closed c =
    let m = c.self.inside in
    let s = c.link.new.self in
    let fields = subst (λ (s : StoredRows). AreTableFields s m.here.items m.touched.items (vec_capacity m.touched)
    m.begun m.count_then m.is_open m.count m.max) (sym c.link.ensures) c.self.invariant in
    subst (λ (b : Bool). AreTableFields s m.here.items m.touched.items
    (vec_capacity m.touched) m.begun m.count_then b m.count m.max)
    (closed-view fields c.args.self.now (same c) c.requires.closed) fields

pub invariant_of-self : goal.invariant_of-self
invariant_of-self c =
    let m = c.self.inside in
    begun_table c.link.new.self m.here.items m.touched.items _ m.begun m.count_then m.count m.max (closed c)

pub returns : goal.returns
returns c =
    let m = c.self.inside in
    let s = c.link.new.self in
    record {
      value = λ j. record {
        dims = ap (λ (t : Places). t.dims) (same c) j;
        measures = ap (λ (t : Places). t.measures) (same c) j;
        max = ap (λ (t : Places). t.max) (same c) j;
        places = ap (λ (t : Places). t.places) (same c) j;
        was = Some (base (((closed c).closed_dims refl ∙ ap (λ (t : Places). t.dims) (same c)) j)
            ((begun_rows s m.here.items m.touched.items _ m.begun m.count_then m.count m.max (closed c)
            ∙ ap rows_of (same c)) j));
      };
    }
