-- A table's parts stay in step.
use Rattle.std.proofs.Common.{◌≡◌, ℕ, ◌+◌, ◌-◌, ◌*◌, ◌^◌, ◌<◌, ◌≤◌, Bool, true, false, cond, if◌then◌else◌, List, [], ◌∷◌, ◌++◌, Option}
use Rattle.std.proofs.Common.{Some, None, IfSome, length, take, map, get_or, set, refl, ap, ap₂, sym, ◌∙◌, subst, arith, suc, nat_eq}
use Rattle.std.proofs.Common.{is_some, true≢false, length-append}
use Rattle.std.specs.List.{All, IsDistinct}
use Rattle.std.proofs.lemmas.List.{get_or_default, length-map, length-set, length-take-le, take-append-le, take-map, take_all}
use Rattle.std.proofs.lemmas.List.Elements.{All-nil, All-push, All-take}
use Rattle.cube_defs.specs.Rows.{Row}
use Rattle.base_table.specs.Last.{last_of, picked}
use Rattle.base_table.specs.Places.{Base, AreRows, IsRow, IsTable, Places, cleared, has_id, narrowed, rows_in, with_code}
use Rattle.base_table.specs.Store.{AreLast, IsFound, AreTableFields, HasShape, base_then, IsMarked, StoredRows, id_of, marks_then, placed}
use Rattle.base_table.specs.Store.{places_with, restored}
use Rattle.base_table.proofs.Batches.{distinct_ids, last_fewer, last_pushed, length-noted, length-restored, marks_stay, noted, noted_below}
use Rattle.base_table.proofs.Columns.{All-picked, picked-map}
use Rattle.base_table.proofs.Placed.{IsAt, at_place, length-placed, placed_at, picked-append, picked-le, picked-push, picked-take}
use Rattle.base_table.proofs.Placed.{picked_fewer, placed_goes, rows_in-placed}
use Rattle.base_table.proofs.Wider.{All-mapped, ids_mapped, marked_mapped, narrowed-all, narrowed-longer, row-longer, row-shorter}

-- some rows of so many dimensions
abbrev pub base : ℕ → List (Row ℕ) → Base
base dims rows = record { dims = dims; rows = rows }

pub is_closed : (o : Bool) (was : Base) → (if o then Some was else None) ≡ None → o ≡ false
is_closed false was h = refl
is_closed true was h = cc

pub is_opened : (o : Bool) (was : Base) → is_some (if o then Some was else None) ≡ true → o ≡ true
is_opened true was h = refl
is_opened false was h = absurd (true≢false (sym h))

are_rows : (dims measures : ℕ) (here : List Bool) (rows : List (Row ℕ)) (count max : ℕ) → IsMarked here rows count max
    → All (IsRow dims measures) rows → AreRows dims measures max (picked here rows)
are_rows dims measures here rows count max m each = record {
  few = omega (arith, m.count_is, m.few);
  each = All-picked (IsRow dims measures) here rows each;
  distinct = distinct_ids here rows m.last;
}

-- the same rows with the first dimensions alone
rows_shorter : (dims measures max v : ℕ) (rows : List (Row ℕ)) → v ≤ dims → AreRows dims measures max rows
    → AreRows v measures max (map (narrowed v) rows)
rows_shorter dims measures max v rows le h = record {
  few = omega (arith, length-map rows (narrowed v), h.few);
  each = All-mapped (IsRow dims measures) (IsRow v measures) (narrowed v)
      (λ row r. row-shorter dims measures v row le r) rows h.each;
  distinct = subst (IsDistinct nat_eq) (sym (ids_mapped (narrowed v) (λ row. refl) rows)) h.distinct;
}

module _ {store : StoredRows} {here : List Bool} {touched : List ℕ} {room begun count_then : ℕ} {o : Bool}
    {count max : ℕ} (h : AreTableFields store here touched room begun count_then o count max) where
  pub length-marks : length (marks_then here touched begun) ≡ begun
  length-marks = length-restored touched (take begun here) ∙ length-take-le begun here h.begun_le

  -- what was there then is among the first rows
  pub then_rows : picked (marks_then here touched begun) (take begun store.rows)
      ≡ picked (marks_then here touched begun) store.rows
  then_rows = picked-take begun (marks_then here touched begun) store.rows (omega (arith, length-marks))

  pub now_rows : rows_in (placed here store.rows) ≡ picked here store.rows
  now_rows = rows_in-placed here store.rows

  were : (o : Bool) → IfSome (if o then Some (base_then store (picked (marks_then here touched begun) store.rows))
      else None) (λ b. AreRows b.dims store.measures max b.rows)
  were false = tt
  were true =
      rows_shorter store.dims store.measures max store.dims_then (picked (marks_then here touched begun) store.rows)
      h.shape.then_le
      (subst (AreRows store.dims store.measures max) then_rows
      (are_rows store.dims store.measures (marks_then here touched begun) (take begun store.rows) count_then max
      h.was_then (All-take (IsRow store.dims store.measures) begun store.rows h.each)))

  pub valid : IsTable (places_with store here touched begun o max)
  valid = record {
    some_dims = h.shape.some_dims;
    few_dims = h.shape.few_dims;
    few_measures = h.shape.few_measures;
    some_rows = h.shape.some_rows;
    few_rows = h.shape.few_rows;
    few_places = omega (arith, h.few_places, length-placed here store.rows h.places);
    rows = subst (AreRows store.dims store.measures max) (sym now_rows)
        (are_rows store.dims store.measures here store.rows count max h.is_now h.each);
    were = were o;
  }

  -- what callers see
  module _ (t : Places) (view : ◌≡◌ {A = Places} (places_with store here touched begun o max) t) where
    pub valid-view : IsTable t
    valid-view = subst (λ (t : Places). IsTable t) view valid

    pub dims-view : store.dims ≡ t.dims
    dims-view = ap (λ (t : Places). t.dims) view

    pub measures-view : store.measures ≡ t.measures
    measures-view = ap (λ (t : Places). t.measures) view

    pub max-view : max ≡ t.max
    max-view = ap (λ (t : Places). t.max) view

    pub rows-view : picked here store.rows ≡ rows_in t.places
    rows-view = sym now_rows ∙ ap (λ (t : Places). rows_in t.places) view

    pub length-view : length here ≡ length t.places
    length-view = sym (length-placed here store.rows h.places) ∙ ap (λ (t : Places). length t.places) view

    pub count-view : count ≡ length (rows_in t.places)
    count-view = h.is_now.count_is ∙ ap length rows-view

    pub closed-view : t.was ≡ None → o ≡ false
    closed-view e = is_closed o (base_then store (picked (marks_then here touched begun) store.rows))
        (ap (λ (t : Places). t.was) view ∙ e)

    pub open-view : is_some t.was ≡ true → o ≡ true
    open-view e = is_opened o (base_then store (picked (marks_then here touched begun) store.rows))
        (ap (λ (t : Places). is_some t.was) view ∙ e)

    pub at-view : (k : ℕ) → is_some (get_or t.places k None) ≡ true → IsAt here store.rows k
    at-view k e = at_place here store.rows k h.places (ap (λ (t : Places). is_some (get_or t.places k None)) view ∙ e)

    pub row-view : (k : ℕ) (d : Row ℕ) → IsAt here store.rows k → get_or t.places k None ≡ Some (get_or store.rows k d)
    row-view k d a = ap (λ (t : Places). get_or t.places k None) (sym view) ∙ a.row d

-- what is read of a mark says whether the place has a row
pub mark_read : (here : List Bool) (rows : List (Row ℕ)) (k : ℕ) (d : Row ℕ) (mark : Bool) (t : Places)
    → k < length here → length rows ≡ length here → placed here rows ≡ t.places → mark ≡ get_or here k mark
    → get_or t.places k None ≡ cond mark (Some (get_or rows k d)) None
mark_read here rows k d mark t lt same are read =
    ap (λ (l : List (Option (Row ℕ))). get_or l k None) (sym are) ∙ placed_at here rows k d same lt
    ∙ ap (λ (b : Bool). cond b (Some (get_or rows k d)) None) (get_or_default here k false mark lt ∙ sym read)

pub found_at : (here : List Bool) (rows : List (Row ℕ)) (id k : ℕ) → length rows ≡ length here → IsFound here rows id k
    → IsAt here rows k
found_at here rows id k e f = record {
  within = f.within;
  there = f.there;
  row = λ d. placed_at here rows k d e f.within ∙ ap (λ b. cond b (Some (get_or rows k d)) None) f.there;
}

-- what holds of the row at a place
pub at_row : (t : Places) (k : ℕ) (row : Row ℕ) (P : Row ℕ → Type 0) → get_or t.places k None ≡ Some row → P row
    → IfSome (get_or t.places k None) P
at_row t k row P e p = subst (λ (o : Option (Row ℕ)). IfSome o P) (sym e) p

-- a batch begins
pub begun_table : (store : StoredRows) (here : List Bool) (touched : List ℕ) (room begun count_then count max : ℕ)
    → AreTableFields store here touched room begun count_then false count max
    → AreTableFields store here touched room begun count_then true count max
begun_table store here touched room begun count_then count max h = record {
  shape = h.shape;
  closed_dims = λ f. absurd (true≢false f);
  few_places = h.few_places;
  places = h.places;
  each = h.each;
  is_now = h.is_now;
  was_then = h.was_then;
  begun_le = h.begun_le;
  dense = h.dense;
  closed = λ f. absurd (true≢false f);
  touched_below = h.touched_below;
  touched_le = h.touched_le;
  room_for_all = h.room_for_all;
}

pub begun_rows : (store : StoredRows) (here : List Bool) (touched : List ℕ) (room begun count_then count max : ℕ)
    → AreTableFields store here touched room begun count_then false count max
    → map (narrowed store.dims_then) (picked (marks_then here touched begun) store.rows)
    ≡ rows_in (placed here store.rows)
begun_rows store here touched room begun count_then count max h =
    let c = h.closed refl in
    ap (λ n. map (narrowed n) (picked (marks_then here touched begun) store.rows)) (h.closed_dims refl)
    ∙ narrowed-all store.dims store.measures (picked (marks_then here touched begun) store.rows)
    (All-picked (IsRow store.dims store.measures) (marks_then here touched begun) store.rows h.each)
    ∙ ap₂ (λ (ps : List ℕ) (n : ℕ). picked (restored ps (take n here)) store.rows) c.1 c.0
    ∙ ap (λ (l : List Bool). picked l store.rows) (take_all (length here) here (omega arith))
    ∙ sym (rows_in-placed here store.rows)

-- a row more
pub put_table : (store : StoredRows) (here : List Bool) (touched : List ℕ) (room room' begun count_then count max : ℕ)
    (row : Row ℕ) → AreTableFields store here touched room begun count_then true count max
    → IsRow store.dims store.measures row → has_id (picked here store.rows) row.id ≡ false → count < max
    → length here + 1 < 2 ^ 32 → length here + 1 ≤ room'
    → AreTableFields (record store { rows = store.rows ++ row ∷ [] }) (here ++ true ∷ []) touched room' begun count_then
    true (count + 1) max
put_table store here touched room room' begun count_then count max row h r absent free small more = record {
  shape = h.shape;
  closed_dims = λ f. absurd (true≢false f);
  few_places = omega (arith, small, length-append here (true ∷ []));
  places = omega (arith, h.places, length-append here (true ∷ []), length-append store.rows (row ∷ []));
  each = All-push (IsRow store.dims store.measures) store.rows row h.each r;
  is_now = record {
    last = last_pushed here store.rows row h.places absent h.is_now.last;
    count_is = omega (
      arith,
      h.is_now.count_is,
      ap length (picked-push here store.rows row h.places),
      length-append (picked here store.rows) (row ∷ []),
    );
    few = omega (arith, free);
  };
  was_then =
      subst (λ (l : List (Row ℕ)). IsMarked (marks_then (here ++ true ∷ []) touched begun) l count_then max)
      (sym (take-append-le begun store.rows (row ∷ []) (omega (arith, h.begun_le, h.places))))
      (subst (λ (l : List Bool). IsMarked (restored touched l) (take begun store.rows) count_then max)
      (sym (take-append-le begun here (true ∷ []) h.begun_le)) h.was_then);
  begun_le = omega (arith, h.begun_le, length-append here (true ∷ []));
  dense = h.dense;
  closed = λ f. absurd (true≢false f);
  touched_below = h.touched_below;
  touched_le = omega (arith, h.touched_le, length-append here (true ∷ []));
  room_for_all = omega (arith, more, length-append here (true ∷ []));
}

pub put_was : (store : StoredRows) (here : List Bool) (touched : List ℕ) (room begun count_then count max : ℕ)
    (row : Row ℕ) → AreTableFields store here touched room begun count_then true count max
    → picked (marks_then (here ++ true ∷ []) touched begun) (store.rows ++ row ∷ [])
    ≡ picked (marks_then here touched begun) store.rows
put_was store here touched room begun count_then count max row h =
    ap (λ (l : List Bool). picked (restored touched l) (store.rows ++ row ∷ []))
    (take-append-le begun here (true ∷ []) h.begun_le)
    ∙ picked-append (marks_then here touched begun) store.rows (row ∷ [])
    (omega (arith, length-marks h, h.begun_le, h.places))

-- a row fewer
pub take_table : (store : StoredRows) (here : List Bool) (touched : List ℕ) (room begun count_then count max k : ℕ)
    → AreTableFields store here touched room begun count_then true count max → k < length here
    → get_or here k false ≡ true
    → AreTableFields store (set here k false) (noted touched k begun) room begun count_then true (count - 1) max
take_table store here touched room begun count_then count max k h lt there =
    let fewer : count ≡ suc (length (picked (set here k false) store.rows)) = h.is_now.count_is
    ∙ picked_fewer here store.rows k h.places lt there in
    record {
      shape = h.shape;
      closed_dims = λ f. absurd (true≢false f);
      few_places = omega (arith, h.few_places, length-set here k false);
      places = omega (arith, h.places, length-set here k false);
      each = h.each;
      is_now = record {
        last = last_fewer here store.rows k lt h.is_now.last;
        count_is = omega (arith, fewer);
        few
            = omega (arith, h.is_now.few);
      };
      was_then = subst (λ (l : List Bool). IsMarked l (take begun store.rows) count_then max)
          (sym (marks_stay here touched begun k there)) h.was_then;
      begun_le = omega (arith, h.begun_le, length-set here k false);
      dense = h.dense;
      closed = λ f. absurd (true≢false f);
      touched_below = noted_below touched begun k h.touched_below;
      touched_le = omega (arith, h.touched_le, fewer, length-noted touched begun k, length-set here k false);
      room_for_all = omega (arith, h.room_for_all, length-set here k false);
    }

-- a row is here, so there are rows
pub some_here : (store : StoredRows) (here : List Bool) (touched : List ℕ) (room begun count_then : ℕ) (o : Bool)
    (count max k : ℕ) → AreTableFields store here touched room begun count_then o count max
    → IsAt here store.rows k → 0 < count
some_here store here touched room begun count_then o count max k h a
    = omega (arith, h.is_now.count_is, picked_fewer here store.rows k h.places a.within a.there)

only_at : (here : List Bool) (rows : List (Row ℕ)) (k : ℕ) (e : Row ℕ) → AreLast here rows → k < length here
    → get_or here k false ≡ true → (i : ℕ) (d : Row ℕ) → i < length here → get_or here i false ≡ true
    → (get_or rows i d).id ≡ (get_or rows k e).id → i ≡ k
only_at here rows k e a lt there i d l t same =
    let one : last_of (nat_eq (get_or rows i d).id) (map id_of rows) ≡ i + 1 = a.last i d l t in
    let two : last_of (nat_eq (get_or rows k e).id) (map id_of rows) ≡ k + 1 = a.last k e lt there in
    omega (arith, ap (λ n. last_of (nat_eq n) (map id_of rows)) same)

pub taken_places : (store : StoredRows) (here : List Bool) (touched : List ℕ) (room begun count_then : ℕ) (o : Bool)
    (count max k : ℕ) (d : Row ℕ) → AreTableFields store here touched room begun count_then o count max
    → IsAt here store.rows k
    → placed (set here k false) store.rows ≡ map (cleared (get_or store.rows k d).id) (placed here store.rows)
taken_places store here touched room begun count_then o count max k d h a =
    placed_goes here store.rows (get_or store.rows k d).id k d h.places a.within a.there refl
    (only_at here store.rows k d h.is_now.last a.within a.there)

-- no batch is open, and the table is as it is
pub settled_table : (store : StoredRows) (here : List Bool) (room n count max : ℕ)
    → HasShape store.dims store.dims_then store.measures max → length here < 2 ^ 32 → length store.rows ≡ length here
    → All (IsRow store.dims store.measures) store.rows
    → IsMarked here store.rows count max → n ≡ length here → length here ≤ 2 * count → length here ≤ room
    → store.dims_then ≡ store.dims → AreTableFields store here [] room n count false count max
settled_table store here room n count max shape few_places places each is_now e dense room_for_all as_many = record {
  shape = shape;
  few_places = few_places;
  places = places;
  each = each;
  is_now = is_now;
  was_then =
      subst (λ (l : List (Row ℕ)). IsMarked (take n here) l count max)
      (sym (take_all n store.rows (omega (arith, e, places))))
      (subst (λ (l : List Bool). IsMarked l store.rows count max) (sym (take_all n here (omega (arith, e)))) is_now);
  begun_le = omega (arith, e);
  dense = omega (arith, e, dense);
  closed = λ _. (e, refl);
  closed_dims = λ _. as_many;
  touched_below = All-nil (λ k. k < n);
  touched_le = omega (arith, is_now.count_is, picked-le here store.rows);
  room_for_all = room_for_all;
}

-- the batch is taken back: the rows of then, with the dimensions of then
abbrev pub rolled_store : StoredRows → ℕ → StoredRows
rolled_store store begun
    = record store { dims = store.dims_then; rows = map (narrowed store.dims_then) (take begun store.rows) }

pub rolled_table : (store : StoredRows) (here : List Bool) (touched : List ℕ) (room begun count_then : ℕ) (o : Bool)
    (count max : ℕ) → AreTableFields store here touched room begun count_then o count max
    → AreTableFields (rolled_store store begun) (marks_then here touched begun)
    [] room begun count_then false count_then max
rolled_table store here touched room begun count_then o count max h =
    let len : length (marks_then here touched begun) ≡ begun
    = length-marks h in
    let rows = take begun store.rows in
    let many : length rows ≡ begun = length-take-le begun store.rows (omega (arith, h.begun_le, h.places)) in
    let shape : HasShape store.dims_then store.dims_then store.measures max = record {
      some_dims = h.shape.some_then;
      few_dims = omega (arith, h.shape.then_le, h.shape.few_dims);
      some_then = h.shape.some_then;
      then_le = omega arith;
      few_measures = h.shape.few_measures;
      some_rows = h.shape.some_rows;
      few_rows = h.shape.few_rows;
    } in
    settled_table (rolled_store store begun) (marks_then here touched begun) room begun count_then max shape
    (omega (arith, len, h.few_places, h.begun_le))
    (omega (arith, len, many, length-map rows (narrowed store.dims_then)))
    (All-mapped (IsRow store.dims store.measures) (IsRow store.dims_then store.measures) (narrowed store.dims_then)
    (λ row r. row-shorter store.dims store.measures store.dims_then row h.shape.then_le r) rows
    (All-take (IsRow store.dims store.measures) begun store.rows h.each))
    (marked_mapped (narrowed store.dims_then) (λ row. refl) (marks_then here touched begun) rows count_then max
    (omega (arith, len, many)) h.was_then)
    (omega (arith, len)) (omega (arith, len, h.dense)) (omega (arith, len, h.begun_le, h.room_for_all)) refl

-- one dimension more
pub wider_table : (store : StoredRows) (here : List Bool) (touched : List ℕ) (room begun count_then count max code : ℕ)
    → store.dims < 16 → code < 4000000 → AreTableFields store here touched room begun count_then true count max
    → AreTableFields (record store { dims = store.dims + 1; rows = map (with_code code) store.rows }) here touched room
    begun count_then true count max
wider_table store here touched room begun count_then count max code few small h = record {
  shape = record {
    some_dims = omega arith;
    few_dims = omega (arith, few);
    some_then = h.shape.some_then;
    then_le = omega (arith, h.shape.then_le);
    few_measures = h.shape.few_measures;
    some_rows = h.shape.some_rows;
    few_rows = h.shape.few_rows;
  };
  closed_dims = λ f. absurd (true≢false f);
  few_places = h.few_places;
  places = length-map store.rows (with_code code) ∙ h.places;
  each = All-mapped (IsRow store.dims store.measures) (IsRow (store.dims + 1) store.measures) (with_code code)
      (λ row r. row-longer store.dims store.measures code row small r) store.rows h.each;
  is_now = marked_mapped (with_code code) (λ row. refl) here store.rows count max (omega (arith, h.places)) h.is_now;
  was_then =
      subst (λ (l : List (Row ℕ)). IsMarked (marks_then here touched begun) l count_then max)
      (sym (take-map (with_code code) begun store.rows))
      (marked_mapped (with_code code) (λ row. refl) (marks_then here touched begun)
      (take begun store.rows) count_then max
      (omega (
        arith,
        length-marks h,
        length-take-le begun store.rows (omega (arith, h.begun_le, h.places)),
      )) h.was_then);
  begun_le = h.begun_le;
  dense = h.dense;
  closed = λ f. absurd (true≢false f);
  touched_below = h.touched_below;
  touched_le = h.touched_le;
  room_for_all = h.room_for_all;
}

-- the rows of then, whose tuples have no more codes than then
pub wider_then : (store : StoredRows) (here : List Bool) (touched : List ℕ) (room begun count_then : ℕ) (o : Bool)
    (count max code : ℕ) → AreTableFields store here touched room begun count_then o count max
    → map (narrowed store.dims_then) (picked (marks_then here touched begun) (map (with_code code) store.rows))
    ≡ map (narrowed store.dims_then) (picked (marks_then here touched begun) store.rows)
wider_then store here touched room begun count_then o count max code h =
    ap (map (narrowed store.dims_then)) (picked-map (with_code code) (marks_then here touched begun) store.rows)
    ∙ narrowed-longer store.dims store.measures store.dims_then code (picked (marks_then here touched begun) store.rows)
    h.shape.then_le (All-picked (IsRow store.dims store.measures) (marks_then here touched begun) store.rows h.each)
