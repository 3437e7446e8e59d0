-- The new closure of a cell that covers the row that goes, by one other row of it and a few counts.
use Rattle.std.proofs.Common.{◌≡◌, ◌↔◌, ℕ, suc, ◌<◌, ◌≤◌, Bool, true, false, Some, None, List, [], ◌∷◌, ◌++◌, filter, length, sym, ap, ◌∙◌}
use Rattle.std.proofs.Common.{arith, slice_get, inl, inr}
use Rattle.std.proofs.lemmas.Bool.{and_from, and_right, false_from_ne_true}
use Rattle.std.specs.List.{AllByRecursion}
use Rattle.std.specs.Option.{option_eq}
use Rattle.cube_defs.specs.Cell.{Cell, leq, with_value}
use Rattle.cube_defs.specs.Rows.{Row, covers, cov, closure, meet_all}
use Rattle.cube_laws.specs.Counts.{count}
use Rattle.cube_laws.specs.Parts.{has_value}
use Rattle.cube_laws.specs.Total.{total, join_cells, agg_at, agg_some}
use Rattle.cube_laws.specs.Tuples.{cells_of}
use Rattle.cube_laws.proofs.Lists.{all_map, to_filter, from_filter, all_at, filter_among, filter_none, all_or_one, length_filter-insert}
use Rattle.cube_laws.proofs.Lists.{insert-all, all-insert, item_at}
use Rattle.cube_laws.proofs.Cells.{IsEquality, symm}
use Rattle.cube_laws.proofs.Closures.{closure_mono, closure_some, leq-closure}
use Rattle.cube_laws.proofs.Columns.{closure-entry}
use Rattle.cube_laws.proofs.Covered.{closure_length, covered_some}
use Rattle.cube_laws.proofs.RowTotals.{row_cell, closure_total}
use Rattle.cube_laws.proofs.Partition.{has_exact, has_same, cov_with, covers_with, leq_with_any}
use Rattle.cube_laws.proofs.OneRow.{cov_stays, closure_stays}
use Rattle.cube_laws.proofs.Counts.{all_have, count_mono, same_count, count_decides, leq_entry, no_new}

module _ {A : Type 0} {eq : A → A → Bool} (law : IsEquality eq) where
  eq_apart : (k : ℕ) (v t : A) (r : Row A) → has_value eq k t r ≡ true → has_value eq k v r ≡ false → eq v t ≡ false
  eq_apart k v t r own gone = sym (ap (option_eq eq (Some v)) (has_exact law k t r own)) ∙ gone

  other : (k : ℕ) (v t : A) (row : Row A) → slice_get row.tuple k ≡ Some v → eq v t ≡ false
      → has_value eq k t row ≡ false
  other k v t row i apart = ap (option_eq eq (Some t)) i ∙ symm law t v ∙ apart

  -- there is a witness: a class with Any in dimension i has another value there than t
  pub another : (rows : List (Row A)) (n : ℕ) (u : Cell A) (i : ℕ) (t : A) → closure eq rows u ≡ Some u
      → slice_get u i ≡ Some None → i < n → AllByRecursion (λ row. length row.tuple ≡ n) rows
      → (v : A) × (eq v t ≡ false) × ((z : Cell A) × (closure eq rows (with_value u i v) ≡ Some z))
  another rows n u i t e any inside long = elim (all_or_one (has_value eq i t) (cov eq rows u)) [
    | inl all ↦
        let value : slice_get u i ≡ Some (Some t)
        = (closure-entry law rows u u i t e).1 ((all_have law (cov eq rows u) i t).1 all) in
        let no_value : Some None ≡ Some (Some t) = sym any ∙ value in cc
    | inr one ↦
        let s : Row A = one.0 in
        let f = filter_among (covers eq u) s rows one.1 in
        let size : length s.tuple ≡ n = all_at (λ row. length row.tuple ≡ n) s rows long f.0 in
        let v = item_at s.tuple i (omega arith) in (
          v.0,
          symm law v.0 t ∙ sym (ap (option_eq eq (Some t)) v.1) ∙ one.2,
          covered_some eq rows (with_value u i v.0) s f.0 (covers_with law u i v.0 s any
              ∙ and_from _ _ f.1 (has_same law i v.0 s v.1)),
        )
  ]

  module _ (xs : List (Row A)) (r : Row A) (ys : List (Row A)) where
    pub count_one_less : (u : Cell A) → covers eq u r ≡ true → count eq (xs ++ r ∷ ys) u ≡ suc (count eq (xs ++ ys) u)
    count_one_less u h = length_filter-insert (covers eq u) xs r ys h

    -- a cell that specializes u, doesn't cover r, and covers all of u's rows but one is u's heir: its rows before are u's rows
    -- afterwards
    pub heir : (u c : Cell A) → covers eq u r ≡ true → leq eq u c ≡ true → covers eq c r ≡ false
        → suc (count eq (xs ++ r ∷ ys) c) ≡ count eq (xs ++ r ∷ ys) u → cov eq (xs ++ r ∷ ys) c ≡ cov eq (xs ++ ys) u
    heir u c h up apart one =
        let stays : cov eq (xs ++ r ∷ ys) c ≡ cov eq (xs ++ ys) c = cov_stays law xs r ys c apart in
        let less : count eq (xs ++ r ∷ ys) u ≡ suc (count eq (xs ++ ys) u) = count_one_less u h in
        let same : count eq (xs ++ r ∷ ys) c ≡ count eq (xs ++ ys) c = ap length stays in
        stays ∙ same_count law (xs ++ ys) u c up (omega arith)

    pub heir_closure : (u c : Cell A) → covers eq u r ≡ true → leq eq u c ≡ true → covers eq c r ≡ false
        → suc (count eq (xs ++ r ∷ ys) c) ≡ count eq (xs ++ r ∷ ys) u
        → closure eq (xs ++ ys) u ≡ closure eq (xs ++ r ∷ ys) c
    heir_closure u c h up apart one = closure_total eq (xs ++ ys) u
        ∙ ap (total (join_cells eq) None row_cell) (sym (heir u c h up apart one))
        ∙ sym (closure_total eq (xs ++ r ∷ ys) c)

    pub heir_agg : (measures : ℕ) (u c : Cell A) → covers eq u r ≡ true → leq eq u c ≡ true → covers eq c r ≡ false
        → suc (count eq (xs ++ r ∷ ys) c) ≡ count eq (xs ++ r ∷ ys) u
        → agg_at eq measures (xs ++ ys) u ≡ agg_at eq measures (xs ++ r ∷ ys) c
    heir_agg measures u c h up apart one = ap (agg_some measures) (sym (heir u c h up apart one))

    -- a witness: the closure of some rows of u that stay has each value that u's new closure has
    pub witness : (u c z w : Cell A) (k : ℕ) (v : A) → leq eq u c ≡ true → covers eq c r ≡ false
        → closure eq (xs ++ r ∷ ys) c ≡ Some z → closure eq (xs ++ ys) u ≡ Some w
        → slice_get w k ≡ Some (Some v) → slice_get z k ≡ Some (Some v)
    witness u c z w k v up apart e f h =
        let kept : closure eq (xs ++ ys) c ≡ Some z = sym (closure_stays law xs r ys c apart) ∙ e in
        leq_entry law k v w z (closure_mono law (xs ++ ys) u c w z up f kept) h

    -- where u is a class before, r's own value is not the new one
    pub own_is_gone : (u w : Cell A) (k : ℕ) (v : A) → closure eq (xs ++ r ∷ ys) u ≡ Some u → slice_get u k ≡ Some None
        → covers eq u r ≡ true → closure eq (xs ++ ys) u ≡ Some w
        → slice_get w k ≡ Some (Some v) → has_value eq k v r ≡ false
    own_is_gone u w k v e any h f g =
        false_from_ne_true _ (λ own.
        let kept : AllByRecursion (λ row. slice_get row.tuple k ≡ Some v) (cov eq (xs ++ ys) u)
        = (closure-entry law (xs ++ ys) u w k v f).0 g in
        let all : AllByRecursion (λ row. covers eq u row ≡ true → slice_get row.tuple k ≡ Some v) (xs ++ r ∷ ys)
        = insert-all _ xs r ys (from_filter (λ row. slice_get row.tuple k ≡ Some v) (covers eq u) (xs ++ ys) kept)
        (λ _. has_exact law k v r own) in
        let value : slice_get u k ≡ Some (Some v)
        = (closure-entry law (xs ++ r ∷ ys) u u k v e).1 (to_filter _ (covers eq u) (xs ++ r ∷ ys) all) in
        let no_value : Some None ≡ Some (Some v) = sym any ∙ value in cc)

    -- the count before decides
    pub count_decides_before : (u w : Cell A) (k : ℕ) (v : A) → slice_get u k ≡ Some None → covers eq u r ≡ true
        → has_value eq k v r ≡ false → closure eq (xs ++ ys) u ≡ Some w
        → (slice_get w k ≡ Some (Some v))
        ↔ (suc (count eq (xs ++ r ∷ ys) (with_value u k v)) ≡ count eq (xs ++ r ∷ ys) u)
    count_decides_before u w k v any h apart e =
        let d = count_decides law (xs ++ ys) u w k v any e in
        let off : covers eq (with_value u k v) r ≡ false = covers_with law u k v r any
        ∙ and_right (covers eq u r) (has_value eq k v r) apart in
        let same : count eq (xs ++ r ∷ ys) (with_value u k v) ≡ count eq (xs ++ ys) (with_value u k v)
        = ap length (cov_stays law xs r ys (with_value u k v) off) in
        let less : count eq (xs ++ r ∷ ys) u ≡ suc (count eq (xs ++ ys) u) = count_one_less u h in (
          λ g. let c : count eq (xs ++ ys) (with_value u k v) ≡ count eq (xs ++ ys) u = d.0 g in
              omega arith,
          λ g. d.1 (omega arith),
        )

    -- u stays a class where no value of the witness z covers all rows that are left
    pub unchanged : (n : ℕ) (u c z : Cell A) → AllByRecursion (λ row. length row.tuple ≡ n) (xs ++ r ∷ ys)
        → closure eq (xs ++ r ∷ ys) u ≡ Some u → covers eq u r ≡ true → leq eq u c ≡ true → covers eq c r ≡ false
        → closure eq (xs ++ r ∷ ys) c ≡ Some z
        → ((k : ℕ) (v : A) → slice_get u k ≡ Some None → slice_get z k ≡ Some (Some v) → has_value eq k v r ≡ false
        → suc (count eq (xs ++ r ∷ ys) (with_value u k v)) ≡ count eq (xs ++ r ∷ ys) u → ⊥)
        → closure eq (xs ++ ys) u ≡ Some u
    unchanged n u c z long e h up apart f none =
        let kept : closure eq (xs ++ ys) c ≡ Some z = sym (closure_stays law xs r ys c apart) ∙ f in
        let m : (w : Cell A) × (closure eq (xs ++ ys) u ≡ Some w) = closure_some law (xs ++ ys) u c z up kept in
        let w : Cell A = m.0 in
        let is : closure eq (xs ++ ys) u ≡ Some w = m.1 in
        let same_length : length u ≡ length w = closure_length eq n u u (xs ++ r ∷ ys) long e
        ∙ sym (closure_length eq n u w (xs ++ ys) (all-insert _ xs r ys long).0 is) in
        is ∙ ap (λ x. Some x) (sym (no_new law u w (leq-closure law (xs ++ ys) u w is) same_length (λ k v any value.
        let gone : has_value eq k v r ≡ false = own_is_gone u w k v e any h is value in
        none k v any (witness u c z w k v up apart f is value) gone
        ((count_decides_before u w k v any h gone is).0 value))))

    -- a class that specializes u and covers another row with r's value there rules the dimension out
    pub ruled_out : (u w d : Cell A) (k : ℕ) (v t : A) → closure eq (xs ++ r ∷ ys) u ≡ Some u
        → slice_get u k ≡ Some None → covers eq u r ≡ true → closure eq (xs ++ ys) u ≡ Some w
        → slice_get w k ≡ Some (Some v)
        → has_value eq k t r ≡ true → leq eq (with_value u k t) d ≡ true → count eq (xs ++ ys) d ≡ 0
    ruled_out u w d k v t e any h f g own up =
        let gone : has_value eq k v r ≡ false = own_is_gone u w k v e any h f g in
        let part : cov eq (xs ++ ys) (with_value u k t) ≡ filter (has_value eq k t) (cov eq (xs ++ ys) u)
        = cov_with law (xs ++ ys) u k t any in
        let kept : AllByRecursion (λ row. slice_get row.tuple k ≡ Some v) (cov eq (xs ++ ys) u)
        = (closure-entry law (xs ++ ys) u w k v f).0 g in
        let none : filter (has_value eq k t) (cov eq (xs ++ ys) u) ≡ []
        = filter_none (has_value eq k t) (cov eq (xs ++ ys) u)
        (all_map _ _ _ (λ row i. other k v t row i (eq_apart k v t r own gone)) kept) in
        let l : count eq (xs ++ ys) d ≤ count eq (xs ++ ys) (with_value u k t)
        = count_mono law (xs ++ ys) (with_value u k t) d up in
        let z : count eq (xs ++ ys) (with_value u k t) ≡ 0 = ap length (part ∙ none) in
        omega arith

    -- a class that covers r and has Any somewhere has another row
    pub two_rows : (u z : Cell A) (i : ℕ) (v : A) → covers eq u r ≡ true → slice_get u i ≡ Some None
        → has_value eq i v r ≡ false → closure eq (xs ++ r ∷ ys) (with_value u i v) ≡ Some z
        → 2 ≤ count eq (xs ++ r ∷ ys) u
    two_rows u z i v h any apart e =
        let off : covers eq (with_value u i v) r ≡ false = covers_with law u i v r any
        ∙ and_right (covers eq u r) (has_value eq i v r) apart in
        let kept : closure eq (xs ++ ys) (with_value u i v) ≡ Some z
        = sym (closure_stays law xs r ys (with_value u i v) off) ∙ e in
        let one : 1 ≤ count eq (xs ++ ys) (with_value u i v) = some_count (cov eq (xs ++ ys) (with_value u i v)) kept in
        let fewer : count eq (xs ++ ys) (with_value u i v) ≤ count eq (xs ++ ys) u
        = count_mono law (xs ++ ys) u (with_value u i v) (leq_with_any law u i v any) in
        let less : count eq (xs ++ r ∷ ys) u ≡ suc (count eq (xs ++ ys) u) = count_one_less u h in
        omega arith
      where
        some_count : (l : List (Row A)) → meet_all eq (cells_of l) ≡ Some z → 1 ≤ length l
        some_count [] k = cc
        some_count (x ∷ l) k = omega arith
