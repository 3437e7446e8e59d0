use Rattle.std.proofs.Common.{◌∙◌, ap, arith, refl, sym, subst, ℕ, false, List, length, vec_capacity}
use Rattle.base_table.specs.Store.{AreTableFields, HasShape, IsMarked, StoredRows, placed}
use Rattle.base_table.specs.Places.{rows_in}
use Rattle.base_table.proofs.Holding.{settled_table, rows-view}
use Rattle.base_table.proofs.table.Table.commit.Goals as goal
use Rattle.base_table.proofs.Placed.{rows_in-placed}

pub invariant_of-self : goal.invariant_of-self
invariant_of-self c =
    let m = c.self.inside in
    let h = c.self.invariant in
    let t = c.compact_if_sparse.ensures in
    let marked : IsMarked c.compact_if_sparse.new.here.items c.compact_if_sparse.new.store.rows m.count m.max
    = record { last = t.last; count_is = h.is_now.count_is ∙ ap length (sym t.rows); few = h.is_now.few } in
    let store : StoredRows = record c.compact_if_sparse.new.store { dims_then = c.compact_if_sparse.new.store.dims } in
    let s = h.shape in
    let shape : HasShape store.dims store.dims_then store.measures m.max = record {
      some_dims = omega (arith, t.dims, s.some_dims);
      few_dims = omega (arith, t.dims, s.few_dims);
      some_then = omega (arith, t.dims, s.some_dims);
      then_le = omega arith;
      few_measures = omega (arith, t.measures, s.few_measures);
      some_rows = s.some_rows;
      few_rows = s.few_rows;
    } in
    subst (λ (s : StoredRows). AreTableFields s c.compact_if_sparse.new.here.items c.clear.new.self.items
    (vec_capacity c.clear.new.self) c.len.result m.count false m.count m.max) (sym c.settle.ensures)
    (subst (λ (l : List ℕ). AreTableFields store c.compact_if_sparse.new.here.items l
    (vec_capacity c.clear.new.self) c.len.result m.count false m.count m.max) (sym c.clear.ensures.items)
    (settled_table store c.compact_if_sparse.new.here.items (vec_capacity c.clear.new.self) c.len.result m.count m.max
    shape (omega (arith, t.fewer, h.few_places))
    t.places t.each marked (omega (arith, c.len.ensures)) t.dense
    (omega (arith, t.fewer, h.room_for_all, c.clear.ensures.capacity)) refl))

pub returns-clause-rows : goal.returns-clause-rows
returns-clause-rows c =
    ap (λ (s : StoredRows). rows_in (placed c.compact_if_sparse.new.here.items s.rows)) c.settle.ensures
    ∙ rows_in-placed c.compact_if_sparse.new.here.items c.compact_if_sparse.new.store.rows
    ∙ c.compact_if_sparse.ensures.rows
    ∙ rows-view c.self.invariant c.args.self.now c.self.view_is
