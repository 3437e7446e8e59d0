use Rattle.std.proofs.Common.{◌≡◌, ◌∙◌, ap, sym, subst, ℕ, List, [], get_or, Option, Some, map, IfSome, is_some}
use Rattle.cube_defs.specs.Rows.{Row}
use Rattle.base_table.specs.Places.{Places, rows_of, cleared, has_id, row_with_id}
use Rattle.base_table.proofs.Holding.{row-view, found_at, rows-view}
use Rattle.base_table.proofs.table.Table.delete.Goals as goal
use Rattle.base_table.proofs.Placed.{found_has, found_row, rows_cleared}

no_row : Row ℕ
no_row = record { id = 0; tuple = []; amounts = [] }

-- what holds of the row at the place, where it is known
known : (o : Option (Row ℕ)) (row : Row ℕ) (P : Row ℕ → Type 0) → o ≡ Some row → IfSome o P → P row
known o row P e h = subst (λ (o : Option (Row ℕ)). IfSome o P) e h

known_back : (o : Option (Row ℕ)) (row : Row ℕ) (P : Row ℕ → Type 0) → o ≡ Some row → P row → IfSome o P
known_back o row P e h = subst (λ (o : Option (Row ℕ)). IfSome o P) (sym e) h

pub find-requires : goal.find-requires
find-requires c = record { last = c.self.invariant.is_now.last; places = c.self.invariant.places }

pub delete_at-requires-clause-there : goal.delete_at-requires-clause-there
delete_at-requires-clause-there c =
    let m = c.self.inside in
    ap is_some (row-view c.self.invariant c.link_ids.new.self c.self.view_is c.in-Some.place no_row
    (found_at m.here.items m.store.rows c.args.id c.in-Some.place c.self.invariant.places c.in-Some.ensures.found))

pub returns-in-Some : goal.returns-in-Some
returns-in-Some c =
    let m = c.self.inside in
    let f = c.in-Some.ensures.found in
    let row = get_or m.store.rows c.in-Some.place no_row in
    let at = row-view c.self.invariant c.link_ids.new.self c.self.view_is c.in-Some.place no_row
    (found_at m.here.items m.store.rows c.args.id c.in-Some.place c.self.invariant.places f) in
    let seen = rows-view c.self.invariant c.args.self.now (c.self.view_is ∙ c.link_ids.ensures) in
    let new = known _ row _ at c.delete_at.ensures.table
    ∙ ap (λ (id : ℕ). let t : Places
    = record c.link_ids.new.self { places = map (cleared id) c.link_ids.new.self.places } in t) (f.named no_row)
    ∙ ap (λ (t : Places). let after : Places = record t { places = map (cleared c.args.id) t.places } in after)
    c.link_ids.ensures in
    record {
      ok = new;
      rows = ap rows_of new ∙ rows_cleared c.args.self.now.places c.args.id;
      taken = known_back _ row _ (ap (λ (l : List (Row ℕ)). row_with_id l c.args.id) (sym seen)
          ∙ found_row m.here.items m.store.rows c.args.id c.in-Some.place no_row c.self.invariant.places f.within
          f.there (f.named no_row) f.only)
          (known _ row _ at c.delete_at.ensures.taken);
      there = ap (λ (l : List (Row ℕ)). has_id l c.args.id) (sym seen)
          ∙ found_has m.here.items m.store.rows c.args.id c.in-Some.place c.self.invariant.places f;
      missing = tt;
      err = tt;
    }

pub returns-in-None : goal.returns-in-None
returns-in-None c =
    record {
      ok = tt;
      rows = tt;
      taken = tt;
      there = tt;
      missing = ap (λ (l : List (Row ℕ)). has_id l c.args.id)
          (sym (rows-view c.self.invariant c.args.self.now (c.self.view_is ∙ c.link_ids.ensures))) ∙ c.in-None.ensures.none;
      err = c.link_ids.ensures;
    }
