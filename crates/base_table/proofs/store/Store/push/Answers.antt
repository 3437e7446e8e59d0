use Rattle.base_table.proofs.Columns.{length-view, length-prints, rows-push, store_pushed}
use Rattle.base_table.specs.Store.{StoredRows, rows_from, IsStore, print_in}
use Rattle.std.proofs.Common.{◌≡◌, ◌∙◌, ap, arith, sym, subst, ◌+◌, ◌*◌, ◌≤◌, ◌++◌, ◌∷◌, [], List, ℕ, ℤ, length, vec_capacity}
use Rattle.base_table.proofs.store.Store.push.Goals as goal
use Rattle.base_table.specs.Places.{IsRow, row_of, values_of}

pub push-requires : goal.push-requires
push-requires c =
    let m = c.self.inside in
    omega (
      arith,
      c.requires.few,
      length-view m.dims m.measures m.printer m.dims_then m.ids m.prints m.codes.items m.amounts.items _
          c.self.invariant c.args.self.now c.self.view_is,
    )

pub push_unlinked-requires : goal.push_unlinked-requires
push_unlinked-requires c =
    let m = c.self.inside in
    omega (
      arith,
      c.requires.few,
      length-view m.dims m.measures m.printer m.dims_then m.ids m.prints m.codes.items m.amounts.items _
          c.self.invariant c.args.self.now c.self.view_is,
      length-prints m.dims m.measures m.printer m.dims_then m.ids m.prints m.codes.items m.amounts.items _
          c.self.invariant c.args.self.now c.self.view_is,
    )

row : (c : goal.After-push_amounts)
    → IsRow c.args.self.now.dims c.args.self.now.measures (row_of c.args.id c.args.tuple.now c.args.amounts.now)
row c = record {
  id = c.ranges.id.fits;
  tuple = c.push_codes.ensures.dims ∙ c.requires.dims;
  codes = c.push_codes.ensures.small;
  amounts = c.requires.measures;
  small = c.requires.small;
}

row_inside : (c : goal.After-push_amounts)
    → IsRow c.self.inside.dims c.self.inside.measures (row_of c.args.id c.args.tuple.now c.args.amounts.now)
row_inside c = subst (λ (s : StoredRows). IsRow s.dims s.measures
    (row_of c.args.id c.args.tuple.now c.args.amounts.now)) (sym c.self.view_is) (row c)

ids : (c : goal.After-push_amounts) → c.push.new.self ≡ c.self.inside.ids ++ c.args.id ∷ []
ids c = c.in_ok-push.ensures.ok

prints : (c : goal.After-push_amounts)
    → c.push_unlinked.new.self ≡ c.self.inside.prints ++ print_in c.self.inside.printer c.args.tuple.now ∷ []
prints c = c.in-Ok.ensures.ok ∙ ap (λ n. c.self.inside.prints ++ n ∷ []) c.of.ensures

codes : (c : goal.After-push_amounts) → c.push_codes.new.codes.items ≡ c.self.inside.codes.items
    ++ values_of c.args.tuple.now
codes c = c.push_codes.ensures.items ∙ ap (λ (l : List ℕ). l ++ values_of c.args.tuple.now) c.reserve.ensures.items

amounts : (c : goal.After-push_amounts) → c.push_amounts.new.amounts.items ≡ c.self.inside.amounts.items
    ++ c.args.amounts.now
amounts c = c.push_amounts.ensures ∙ ap (λ (l : List ℤ). l ++ c.args.amounts.now) c.reserve-2.ensures.items

room : (c : goal.After-push_amounts) → (length c.self.inside.ids + 1) * 16 ≤ vec_capacity c.push_codes.new.codes
room c = omega (arith, c.in_ok-reserve.ensures.ok, c.push_codes.ensures.capacity, c.len.ensures)

pub invariant_of-self-2 : goal.invariant_of-self-2
invariant_of-self-2 c =
    let m = c.self.inside in
    subst (λ (l : List ℕ). IsStore m.dims m.measures m.printer m.dims_then l c.push_unlinked.new.self
    c.push_codes.new.codes.items c.push_amounts.new.amounts.items (vec_capacity c.push_codes.new.codes))
    (sym (ids c))
    (subst (λ (l : List ℕ). IsStore m.dims m.measures m.printer m.dims_then
    (m.ids ++ c.args.id ∷ []) l c.push_codes.new.codes.items c.push_amounts.new.amounts.items
    (vec_capacity c.push_codes.new.codes)) (sym (prints c))
    (subst (λ (l : List ℕ). IsStore m.dims m.measures m.printer m.dims_then (m.ids ++ c.args.id ∷ [])
    (m.prints ++ print_in m.printer c.args.tuple.now ∷ []) l c.push_amounts.new.amounts.items
    (vec_capacity c.push_codes.new.codes)) (sym (codes c))
    (subst (λ (l : List ℤ). IsStore m.dims m.measures m.printer m.dims_then (m.ids ++ c.args.id ∷ [])
    (m.prints ++ print_in m.printer c.args.tuple.now ∷ []) (m.codes.items ++ values_of c.args.tuple.now) l
    (vec_capacity c.push_codes.new.codes)) (sym (amounts c))
    (store_pushed m.dims m.measures m.printer m.dims_then m.ids m.prints m.codes.items m.amounts.items _
    (vec_capacity c.push_codes.new.codes) c.args.id c.args.tuple.now c.args.amounts.now c.self.invariant
    (room c) c.requires.no_any (row_inside c)))))

pub returns-clause-ok : goal.returns-clause-ok
returns-clause-ok c =
    let m = c.self.inside in
    λ j. record {
      dims = ap (λ (s : StoredRows). s.dims) c.self.view_is j;
      dims_then = ap (λ (s : StoredRows). s.dims_then) c.self.view_is j;
      printer = ap (λ (s : StoredRows). s.printer) c.self.view_is j;
      measures = ap (λ (s : StoredRows). s.measures) c.self.view_is j;
      rows = ((λ i. rows_from m.dims m.measures (ids c i) (codes c i) (amounts c i))
          ∙ rows-push m.dims m.measures m.ids m.codes.items m.amounts.items c.args.id
          (values_of c.args.tuple.now) c.args.amounts.now c.self.invariant.codes_len c.self.invariant.amounts_len
          (row_inside c).tuple (row_inside c).amounts
          ∙ ap (λ (s : StoredRows). s.rows ++ row_of c.args.id c.args.tuple.now c.args.amounts.now ∷ []) c.self.view_is)
          j;
    }

pub returns-clause-row : goal.returns-clause-row
returns-clause-row c = row c
